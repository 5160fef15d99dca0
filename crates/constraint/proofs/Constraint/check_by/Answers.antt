-- `constraint::Constraint::check_by` meets its contract: no words, a first word that is no bound, plain words, the items' places, and then the other checks.
-- Assumes nothing.
use mathlib.Core.Path.{◌≡◌, sym, ◌∙◌, subst}
use Prim.Native.Nat.{ℕ, ◌<◌}
use native.Mathlib.Omega.{arith}
use borrow.Author.Tests.{eqb-true, eqb-false}
use lib.ListN.{length, drop}
use mathlib.Core.Bool.{false}
use Rattle.std.proofs.lemmas.Result.{err_from_is_err_and}
use Rattle.constraint_words.specs.Reading.{placed_from}
use Rattle.constraint_words.proofs.Checking.{checked_none, checked_first, checked_places, checked_items}
use Rattle.constraint.proofs.Constraint.check_by.Goals as goal

pub returns-then-is_empty : goal.returns-then-is_empty
returns-then-is_empty c = sym (checked_none c.args.limits c.args.words.now (eqb-true (length c.args.words.now) 0 (sym c.is_empty.ensures ∙ c.if-is_empty.true)))

pub returns-then-kind_of : goal.returns-then-kind_of
returns-then-kind_of c =
    let some : 0 < length c.args.words.now = omega (arith, eqb-false (length c.args.words.now) 0 (sym c.is_empty.ensures ∙ c.if-is_empty.false)) in
    sym (checked_first c.args.limits c.args.words.now some (omega arith))

pub returns-in_err-check_places : goal.returns-in_err-check_places
returns-in_err-check_places c =
    let ws = c.args.words.now in
    let p = err_from_is_err_and c.from_residual.result c.from_residual.ensures.1 in
    let some : 0 < length ws = omega (arith, eqb-false (length ws) 0 (sym c.is_empty.ensures ∙ c.if-is_empty.false)) in
    let places = subst (λ (f : ℕ). c.check_places.result ≡ placed_from false f (drop f ws)) c.first_item-first.ensures c.check_places.ensures in
    rw (p.1, p.2) (sym (checked_places c.args.limits ws some (omega arith) _ (sym places ∙ c.in_err-check_places.was)))

pub returns : goal.returns
returns c =
    let ws = c.args.words.now in
    let some : 0 < length ws = omega (arith, eqb-false (length ws) 0 (sym c.is_empty.ensures ∙ c.if-is_empty.false)) in
    let places = subst (λ (f : ℕ). c.check_places.result ≡ placed_from false f (drop f ws)) c.first_item-first.ensures c.check_places.ensures in
    c.check_items.ensures ∙ sym (checked_items c.args.limits ws some (omega arith) (sym places ∙ c.in_ok-check_places.was))
