-- `search_store::make_room` meets its contract. The loop's invariant: the labels from i on are moved. Assumes nothing.
use Rattle.std.proofs.Common.{◌≡◌, ℕ, ◌+◌, ◌-◌, arith, subst}
use Rattle.search_store.specs.Stored.{Raised}
use Rattle.search_store.proofs.Insertion.{raise_start, raise_turn}
use Rattle.search_store.proofs.make_room.Goals as goal

pub loop-i-init : goal.loop-i-init
loop-i-init c = (omega (arith, c.requires.0), raise_start c.args.table.now c.args.count)

pub loop-i-preserved : goal.loop-i-preserved
loop-i-preserved c =
    let l = c.loop-i in
    let up : l.i - 1 + 1 ≡ l.i = omega arith in
    (omega arith, raise_turn c.args.table.now l.table _ l.i c.args.count (omega arith) l.auto.i c.requires.1 l.invariant.1 (rw up at c.move_label.ensures))

pub returns : goal.returns
returns c =
    let l = c.loop-i in
    let e : l.i ≡ c.args.p = omega (arith, l.invariant.0) in
    subst (λ (i : ℕ). Raised c.args.table.now i c.args.count l.table) e l.invariant.1
