-- `constraint::checking::check_items` meets its contract: the tests on the way decide the parts of the definition one after the other. Assumes nothing.
use mathlib.Core.Path.{◌≡◌, ap, sym, ◌∙◌, subst}
use Prim.Native.Nat.{ℕ}
use native.Mathlib.Omega.{arith}
use borrow.Author.Tests.{ltb-false}
use Rattle.std.proofs.Common.{rules}
use lib.ListN.{length, drop}
use Rattle.refusal.specs.Table.{passed}
use Rattle.constraint_words.specs.Reading.{each_from, lower_checked, count_checked, term_checked, relation_checked}
use Rattle.constraint_words.proofs.Items.{term_count}
use Rattle.constraint_words.proofs.Checking.{first_one, relation_none, relation_few, items_rest}
use Rattle.constraint.proofs.checking.check_items.Goals as goal
use Rattle.constraint.proofs.checking.check_items.Goals.{else-first-eq2-via-then-first-eq2+else-payload_of-gt3, else-first-eq2-via-else-first-eq2}

pub returns : goal.returns
returns c =
    let l = c.args.limits in
    let ws = c.args.words.now in
    let is = c.requires.0 in
    let relation : relation_checked ws ≡ passed = elim c.else-first-eq2.branch [ else-first-eq2-via-then-first-eq2+else-payload_of-gt3 w ↦ relation_few ws (omega (arith, ltb-false)) | else-first-eq2-via-else-first-eq2 w ↦ relation_none ws (first_one ws (omega arith)) ] in
    let lowers = subst (λ (f : ℕ). c.check_lowers.result ≡ each_from lower_checked f (drop f ws)) is c.check_lowers.ensures in
    let terms = subst (λ (f : ℕ). c.count_terms-terms.result ≡ term_count (drop f ws)) is c.count_terms-terms.ensures in
    let count = ap (count_checked l (length ws)) (sym terms) ∙ sym c.check_count.ensures ∙ c.in_ok-check_count.was in
    let each : c.check_each.result ≡ each_from term_checked c.args.first (drop c.args.first ws) = search rules in
    each ∙ ap (λ (f : ℕ). each_from term_checked f (drop f ws)) is ∙ sym (items_rest l ws relation (sym lowers ∙ c.in_ok-check_lowers.was) count)
