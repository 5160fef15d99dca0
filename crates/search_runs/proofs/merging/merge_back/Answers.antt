-- `search_runs::merging::merge_back` meets its contract. The invariant of both loops: what is left to merge, followed by what is stored, is the merge of the
-- runs. Each turn has one record less to merge, of the second run in the outer loop and of the first in the inner. Assumes nothing.
use mathlib.Core.Path.{◌≡◌, sym, ◌∙◌}
use Prim.Native.Nat.{◌+◌, ◌-◌}
use native.Mathlib.Omega.{arith}
use Rattle.search_runs.proofs.Turns.{inv_end, turn_main, turn_pending}
use Rattle.search_runs.proofs.merging.merge_back.Goals as goal

pub loop-i-preserved : goal.loop-i-preserved
loop-i-preserved c =
    let l = c.loop-j in
    let n = c.loop-i in
    let key = c.key_of-k in
    let test = c.last_above in
    let moved = c.move_label in (
      omega (arith, n.invariant.0),
      moved.auto.table ∙ n.invariant.1,
      λ t₀ h. turn_main t₀ c.args.s.now c.args.main c.args.count c.requires.0 (omega (arith, h.3, l.invariant.3)) c.requires.2 n.table n.i (l.j - 1) key.result
          (n.invariant.2 t₀ h) key.ensures moved.new.table (sym test.ensures ∙ c.loop-i-test.true) moved.ensures,
    )

pub loop-j-preserved : goal.loop-j-preserved
loop-j-preserved c =
    let l = c.loop-j in
    let n = c.loop-i in
    let key = c.key_of-k in
    let test = c.last_above in
    let copied = c.copy_label in
    let left : l.j - 1 + 1 ≡ l.j = omega arith in
    turn_pending c.args.table.now c.args.s.now c.args.main c.args.count c.requires.0 c.requires.1 c.requires.2 n.table n.i (l.j - 1) key.result
    (n.invariant.2 c.args.table.now (rw left l.invariant)) key.ensures copied.new.table (sym test.ensures ∙ c.loop-i-test.false) copied.ensures

pub returns : goal.returns
returns c =
    let l = c.loop-j in
    inv_end c.args.table.now c.args.s.now c.args.main c.args.count c.requires.0 c.requires.1 c.requires.2 c.requires.3 l.table l.i l.j (omega arith) l.invariant
