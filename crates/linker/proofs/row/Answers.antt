-- `linker::row` meets its contract: a level's coefficient and domain end are within the limits, and what is counted is no part of a label. Assumes nothing.
use Prim.Native.Nat.{◌≤◌, ◌+◌}
use native.Mathlib.Nat.{mul-le-mul_left}
use native.Mathlib.Omega.{arith}
use mathlib.Core.Path.{◌≡◌, refl, sym, ap, subst, ◌∙◌}
use mathlib.Core.List.{map}
use lib.IntN.{sub_ℕ}
use lib.ListN.{length, take, get_or}
use lib.Seq.{paste, take_all}
use Rattle.word.specs.Edge.{edge_word, edge_of}
use Rattle.word.specs.Record.{labels, labelled}
use Rattle.word.proofs.Labels.{labelled_length}
use Rattle.diagram.specs.Constraint.{last_end}
use Rattle.diagram.proofs.Entering.{Inside}
use Rattle.constraint.proofs.Slices.{rests_count, term_at}
use Rattle.search_ordered.specs.Order.{Sorted}
use Rattle.linker.specs.Row.{leads_to, row_at}
use Rattle.linker.specs.Counting.{entered, CanEnter}
use Rattle.linker.proofs.Counting.{entered_length, entered_labels, can_enter}
use Rattle.linker.proofs.Children.{leads_fit, leads_inside, row_in}
use Rattle.linker.proofs.Turns.{row_long, row_turn, count_turn, row_whole}
use Rattle.linker.proofs.row.Goals as goal

pub bounds-levels-i : goal.bounds-levels-i
bounds-levels-i c = omega (arith, rests_count _ _ _ c.args.levels.lent, c.requires.i_in_bounds.0)

pub loop-j-init : goal.loop-j-init
unfolding entered
loop-j-init c = (omega arith, refl, refl)

pub bounds-cursors-j : goal.bounds-cursors-j
bounds-cursors-j c = let t = term_at _ _ _ c.args.levels.lent c.args.i c.requires.i_in_bounds.0 in omega (arith, t.1, c.requires.i_in_bounds.1)

pub invariant_of-child : goal.invariant_of-child
invariant_of-child c =
    let same = ap (λ t. take c.args.count (labels t)) c.loop-j.invariant.2 ∙ ap (take c.args.count) (entered_labels c.args.table.now _) in
    record { sorted = subst Sorted (sym same) c.requires.count_le_most_nodes.2 }

pub edge_word-requires : goal.edge_word-requires
edge_word-requires c =
    let a = c.args in
    let l = c.loop-j in
    let long = ap length l.invariant.2 ∙ entered_length a.table.now _ in
    rw c.child-c.ensures
    (leads_fit (labelled l.table a.count) (a.i + 2) (get_or a.levels.rests.now (a.i + 1) 0) (sub_ℕ a.lower l.taken)
    (omega (arith, c.requires.count_le_most_nodes.0, labelled_length l.table a.count (omega (arith, c.requires.count_le_most_nodes.1, long)))))

pub enter-requires : goal.enter-requires
enter-requires c =
    let a = c.args in
    let l = c.loop-j in
    let xs = labelled a.table.now a.count in
    let row = row_at a.levels.coefficients.now a.levels.ends.now a.levels.rests.now xs a.i a.lower in
    let e = edge_of c.child-c.result in
    let long = ap length l.invariant.2 ∙ entered_length a.table.now _ in
    let m = labelled_length l.table a.count (omega (arith, c.requires.count_le_most_nodes.1, long)) in
    let inside : Inside a.count e =
    subst (λ k. Inside k e) m (rw c.child-c.ensures (leads_inside (labelled l.table a.count) (a.i + 2) (get_or a.levels.rests.now (a.i + 1) 0) (sub_ℕ a.lower l.taken))) in
    let t = term_at _ _ _ a.levels.lent a.i c.requires.i_in_bounds.0 in
    subst (λ t. CanEnter t e) (sym l.invariant.2)
    (can_enter a.table.now row a.count l.j e c.requires.count_le_most_nodes.1 c.requires.counts_fit
    (row_in a.table.now a.count c.requires.count_le_most_nodes.1 (a.i + 2) _ _ _ a.lower)
    (omega (arith, t.1, c.requires.i_in_bounds.1))
    inside)

pub overflow_add-taken : goal.overflow_add-taken
overflow_add-taken c =
    let t = term_at _ _ _ c.args.levels.lent c.args.i c.requires.i_in_bounds.0 in
    let h : c.loop-j.j ≤ last_end = omega (arith, t.1, c.requires.i_in_bounds.1) in
    omega (arith, t.3, c.loop-j.invariant.0, mul-le-mul_left (get_or c.args.levels.coefficients.now c.args.i 0) h)

pub loop-j-preserved : goal.loop-j-preserved
loop-j-preserved c =
    let a = c.args in
    let l = c.loop-j in
    let cs = a.levels.coefficients.now in
    let ds = a.levels.ends.now in
    let rs = a.levels.rests.now in
    let xs = labelled a.table.now a.count in
    let same = ap (λ t. take a.count (labels t)) l.invariant.2 ∙ ap (take a.count) (entered_labels a.table.now _) in
    let leads =
    c.child-c.ensures
    ∙ ap (λ ys. leads_to ys (a.i + 2) (get_or rs (a.i + 1) 0) (sub_ℕ a.lower l.taken)) same
    ∙ ap (λ t. leads_to xs (a.i + 2) (get_or rs (a.i + 1) 0) (sub_ℕ a.lower t)) l.invariant.0 in (
      omega (arith, l.invariant.0),
      row_turn xs (a.i + 2) (get_or rs (a.i + 1) 0) (get_or cs a.i 0) (get_or ds a.i 0) a.lower a.words.now l.words l.j c.edge_word.result
          (omega (arith, c.requires.i_in_bounds.1)) (omega (arith, c.requires.i_in_bounds.1)) l.invariant.1
          (c.edge_word.ensures ∙ ap edge_word leads),
      c.enter.ensures
          ∙ count_turn xs (a.i + 2) (get_or rs (a.i + 1) 0) (get_or cs a.i 0) (get_or ds a.i 0) a.lower a.table.now l.table l.j _
          (omega (arith, c.requires.i_in_bounds.1)) l.invariant.2 leads,
    )

pub returns : goal.returns
returns c =
    let a = c.args in
    let l = c.loop-j in
    let cs = a.levels.coefficients.now in
    let ds = a.levels.ends.now in
    let rs = a.levels.rests.now in
    let xs = labelled a.table.now a.count in
    let e : l.j ≡ get_or ds a.i 0 + 1 = omega (arith, c.requires.i_in_bounds.1) in record {
      words_after =
          l.invariant.1
          ∙ ap (paste a.words.now 0 (map edge_word (row_at cs ds rs xs a.i a.lower))) e
          ∙ row_whole xs (a.i + 2) (get_or rs (a.i + 1) 0) (get_or cs a.i 0) (get_or ds a.i 0) a.lower a.words.now c.requires.i_in_bounds.1;
      table_after = l.invariant.2
          ∙ ap (entered a.table.now) (take_all l.j (row_at cs ds rs xs a.i a.lower)
          (omega (arith, row_long xs (a.i + 2) (get_or rs (a.i + 1) 0) (get_or cs a.i 0) (get_or ds a.i 0) a.lower)));
    }
