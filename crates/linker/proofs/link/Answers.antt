-- `linker::link` meets its contract: at each turn a record and its row are written. Assumes nothing.
use mathlib.Core.List.{List}
use Prim.Native.Nat.{ℕ, ◌<◌}
use lib.IntN.{ℤ}
use native.Mathlib.Numerals.{add-one}
use native.Mathlib.Omega.{arith}
use mathlib.Core.Path.{◌≡◌, refl, sym, ◌∙◌}
use lib.ListN.{length-set, length-drop}
use lib.Seq.{length-take-le}
use Rattle.std.proofs.lemmas.Slice.{put_mid-paste}
use Rattle.constraint.specs.Lent.{Lent}
use Rattle.linker.specs.Counting.{unentered}
use Rattle.linker.specs.Linked.{Finished}
use Rattle.linker.proofs.Children.{ready, linked, row_in, cleared_finished, cleared_linked, cleared_counts}
use Rattle.linker.proofs.Turns.{words_long, Turn, turn_start, turn_next, turn_end}
use Rattle.linker.proofs.Facts.{Facts, facts}
use Rattle.linker.proofs.link.Goals as goal

-- what holds where the loop's body begins
known : {cs ds rs t u es₀ t' es : List ℕ} {count first k : ℕ} → Lent cs ds rs → (a : ℤ) × Finished cs ds a t count es₀ → u ≡ unentered t count
    → Turn cs ds rs u es₀ count t' es first k → k < count → Facts cs ds rs count t' es first k
known {cs} {ds} {rs} {t} {u} {es₀} {t'} {es} {count} L p e so h = facts L (p.0, cleared_finished cs ds p.0 t u count es₀ e p.1) so h

pub loop-node-init : goal.loop-node-init
loop-node-init c =
    let a = c.args in
    turn_start a.levels.coefficients.now a.levels.ends.now a.levels.rests.now _ a.edges.now a.count
    (cleared_counts a.table.now _ a.count c.clear_entering.ensures c.requires.1.room)

pub overflow_sub-i : goal.overflow_sub-i
overflow_sub-i c = let f = known c.args.levels.lent c.requires c.clear_entering.ensures c.loop-node.invariant c.loop-node-test.true in omega arith

pub bounds-levels-i : goal.bounds-levels-i
bounds-levels-i c = let f = known c.args.levels.lent c.requires c.clear_entering.ensures c.loop-node.invariant c.loop-node-test.true in omega arith

pub overflow_add-past-in-loop-node : goal.overflow_add-past-in-loop-node
overflow_add-past-in-loop-node c = let f = known c.args.levels.lent c.requires c.clear_entering.ensures c.loop-node.invariant c.loop-node-test.true in omega arith

pub overflow_cast-table : goal.overflow_cast-table
overflow_cast-table c = let f = known c.args.levels.lent c.requires c.clear_entering.ensures c.loop-node.invariant c.loop-node-test.true in omega arith

pub offset_bounds-edges-first : goal.offset_bounds-edges-first
offset_bounds-edges-first c = let f = known c.args.levels.lent c.requires c.clear_entering.ensures c.loop-node.invariant c.loop-node-test.true in omega arith

pub slice_bounds-row-end : goal.slice_bounds-row-end
slice_bounds-row-end c = let f = known c.args.levels.lent c.requires c.clear_entering.ensures c.loop-node.invariant c.loop-node-test.true in f.fits

pub row-requires : goal.row-requires
row-requires c =
    let f = known c.args.levels.lent c.requires c.clear_entering.ensures c.loop-node.invariant c.loop-node-test.true in
    record {
      count_le_most_nodes = (f.countable.few, simp length-set f.countable.room, f.sorted);
      i_in_bounds = (omega arith, length-take-le _ _ (omega (arith, length-drop c.loop-node.first c.loop-node.edges)) ∙ omega arith);
      counts_fit = f.counts;
    }

pub loop-node-preserved : goal.loop-node-preserved
loop-node-preserved c =
    let a = c.args in
    let l = c.loop-node in
    let e = c.clear_entering.ensures in
    let cs = a.levels.coefficients.now in
    let ds = a.levels.ends.now in
    let rs = a.levels.rests.now in
    let done = cleared_finished cs ds c.requires.0 a.table.now _ a.count a.edges.now e c.requires.1 in
    let r = ready cs ds rs a.levels.lent c.requires.0 _ a.count a.edges.now done in
    turn_next cs ds rs _ a.edges.now a.count l.table l.edges l.first l.node r.countable.room l.invariant c.loop-node-test.true r.wide _ _ _ _ _ refl refl refl
    (row_in _ a.count r.countable.room _ _ _ _ _)
    c.row.ensures.table_after
    (put_mid-paste l.first _ l.edges _ _ _ c.row.ensures.words_after (omega arith) (add-one _ ∙ sym (words_long _ _ _ _ _ _)))

pub returns : goal.returns
returns c =
    let a = c.args in
    let l = c.loop-node in
    let e = c.clear_entering.ensures in
    let cs = a.levels.coefficients.now in
    let ds = a.levels.ends.now in
    let rs = a.levels.rests.now in
    let done = cleared_finished cs ds c.requires.0 a.table.now _ a.count a.edges.now e c.requires.1 in
    let r = ready cs ds rs a.levels.lent c.requires.0 _ a.count a.edges.now done in
    let end = turn_end cs ds rs _ a.edges.now a.count l.table l.edges l.first l.node r.countable.room l.invariant c.loop-node-test.false in
    λ b f. cleared_linked cs ds b a.table.now _ a.count a.edges.now e l.table l.edges
    (linked cs ds rs a.levels.lent b _ a.count a.edges.now (cleared_finished cs ds b a.table.now _ a.count a.edges.now e f) l.table l.edges end)
