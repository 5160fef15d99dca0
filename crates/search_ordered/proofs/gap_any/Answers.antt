-- `search_ordered::gap_any` meets its contract. The loop's invariant: the records before lo lie before the remainder and those from hi on do not. The
-- measure is the number of records between. Assumes nothing.
use borrow.Author.Rules.{rules}
use Prim.Native.Nat.{ℕ, ◌+◌, ◌-◌, ◌/◌, ◌≤◌, ◌<◌}
use native.Mathlib.Omega.{arith}
use mathlib.Core.Path.{sym, ◌∙◌}
use Rattle.word.proofs.Labels.{labelled_length}
use Rattle.search_ordered.proofs.Search.{bracket_start, bracket_up, bracket_down, bracket_met}
use Rattle.search_ordered.proofs.gap_any.Goals as goal

pub loop-lo-init : goal.loop-lo-init
loop-lo-init c = (bracket_start _ _ _ _ (sym (labelled_length _ _ c.args.ordered.records.fit)), search rules)

pub loop-lo-preserved-then-lies_before : goal.loop-lo-preserved-then-lies_before
loop-lo-preserved-then-lies_before c =
    let l = c.loop-lo in
    let m : ℕ = l.lo + (l.hi - l.lo) / 2 in
    let low : l.lo ≤ m = omega arith in
    let high : m < l.hi = omega arith in
    (bracket_up _ c.args.ordered.sorted _ _ _ _ m l.invariant.0 low high (sym c.lies_before.ensures ∙ c.if-lies_before.true), search rules)

pub loop-lo-preserved : goal.loop-lo-preserved
loop-lo-preserved c =
    let l = c.loop-lo in
    let m : ℕ = l.lo + (l.hi - l.lo) / 2 in
    let low : l.lo ≤ m = omega arith in
    let high : m < l.hi = omega arith in
    (bracket_down _ c.args.ordered.sorted _ _ _ _ m l.invariant.0 low high (sym c.lies_before.ensures ∙ c.if-lies_before.false), search rules)

pub returns : goal.returns
returns c = bracket_met _ c.args.ordered.sorted _ _ (search rules) _ _ c.loop-lo.invariant.0 c.loop-lo-test.false
