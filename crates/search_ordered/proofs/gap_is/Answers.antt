-- `search_ordered::gap_is` meets its contract: the record before n lies before the remainder, and record n, if there is one, does not. Assumes nothing.
use mathlib.Core.Path.{sym, ◌∙◌}
use mathlib.Core.Bool.{true≢false}
use native.Mathlib.Omega.{arith}
use borrow.Author.Rules.{rules}
use borrow.Author.Tests.{not-true}
use Rattle.word.proofs.Labels.{labelled_length}
use Rattle.search_ordered.proofs.Search.{bracket_from, bracket_down, bracket_met}
use Rattle.search_ordered.proofs.gap_is.Goals as goal

pub returns-then-not-last_below : goal.returns-then-not-last_below
returns-then-not-last_below c e = absurd (true≢false (sym e))

pub returns-then-ordered-n : goal.returns-then-ordered-n
returns-then-ordered-n c e =
    let o = c.args.ordered in
    let first = sym c.last_below.ensures ∙ c.if-not-last_below.false in
    bracket_met _ o.sorted _ _ (search rules) _ _ (bracket_from _ o.sorted _ _ _ _ (sym (labelled_length _ _ o.records.fit)) first) c.if-ordered-n.true

pub returns : goal.returns
returns c e =
    let o = c.args.ordered in
    let first = sym c.last_below.ensures ∙ c.if-not-last_below.false in
    let test = sym c.lies_before.ensures ∙ not-true c.lies_before.result e in
    bracket_met _ o.sorted _ _ (search rules) _ _ (bracket_down _ o.sorted _ _ c.args.n o.records.count c.args.n (bracket_from _ o.sorted _ _ _ _ (sym (labelled_length _ _ o.records.fit)) first) (omega arith) (omega arith) test) (omega arith)
