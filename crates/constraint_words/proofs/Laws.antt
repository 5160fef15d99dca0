-- WHAT WORDS THAT PASS THE CHECK are: each part has passed, and the constraint that they state is within the limits. By induction over the words. Assumes nothing.
use mathlib.Core.Path.{◌≡◌, refl}
use mathlib.Core.Bool.{Bool, true, false, cond}
use mathlib.Core.List.{List, [], ◌∷◌, map}
use Prim.Native.Nat.{ℕ, suc, ◌≤◌, ◌<◌}
use native.Mathlib.Omega.{arith}
use borrow.Author.Tests.{leb-true, eqb-true}
use lib.Dec.{leb, eqb}
use lib.IntN.{ℤ, pos}
use lib.ListN.{length, get_or, length-map}
use Rattle.word.specs.Word.{kind, less_half, coefficient, domain_end}
use Rattle.word.proofs.Tests.{between_is}
use Rattle.refusal.specs.Table.{and_then, unless}
use Rattle.refusal.specs.Table.{Checked}
use Rattle.refusal.specs.Table.{passed}
use Rattle.refusal.specs.declared.Refusal.TheVariants.{NoWords, WrongKind, TermCount, DomainEnd, ZeroCoefficient}
use Rattle.refusal.proofs.Passes.{refused_fails, both_passed, unless_passed}
use Rattle.diagram.specs.Constraint.{Limited, AllLimited, Within, last_end}
use Rattle.limits.specs.declared.Limits.{Limits}
use Rattle.limits.specs.Limits.{term_limit}
use Rattle.inequality.specs.Base.{base_term}
use Rattle.constraint_words.specs.Reading.{up_to, is_lower, first_item, items, each_from, placed_from, relation_checked, lower_checked, count_checked, term_checked, term_of, terms_from, terms_in, items_checked, checked, as_written, stated}

pub up_to_lem : (n x : ℕ) → up_to n x ≡ true → (1 ≤ x) × (x ≤ n)
up_to_lem n x e = between_is 1 x n e

-- A term that passes is within the limits: its coefficient has 16 bits.
pub term_limited : (l : ℤ) (at w : ℕ) → is_lower w ≡ false → term_checked at w ≡ passed → Limited (base_term (term_of l w))
term_limited l at w k e =
    let parts = both_passed (unless (up_to last_end (domain_end w)) (DomainEnd at)) (unless (leb 1 (coefficient w)) (ZeroCoefficient at)) (rw k at e) in
    let end = up_to_lem last_end (domain_end w) (unless_passed (up_to last_end (domain_end w)) (DomainEnd at) parts.0) in
    let coef = leb-true 1 (coefficient w) (unless_passed (leb 1 (coefficient w)) (ZeroCoefficient at) parts.1) in
    (end.0, end.1, coef, omega arith)

each_limited : (l : ℤ) (at : ℕ) (ws : List ℕ) → each_from term_checked at ws ≡ passed → AllLimited (map base_term (terms_from l ws))
unfolding each_from terms_from
each_limited l at [] e = Prim.tt
each_limited l at (w ∷ ws) e =
    let parts = both_passed (term_checked at w) (each_from term_checked (suc at) ws) e in
    go (is_lower w) refl parts.0 (each_limited (less_half w) (suc at) ws parts.1) (each_limited (pos 0) (suc at) ws parts.1)
  where
    go : (b : Bool) → is_lower w ≡ b → term_checked at w ≡ passed → AllLimited (map base_term (terms_from (less_half w) ws)) → AllLimited (map base_term (terms_from (pos 0) ws))
        → AllLimited (map base_term (cond b (terms_from (less_half w) ws) (term_of l w ∷ terms_from (pos 0) ws)))
    go true k c p q = p
    go false k c p q = (term_limited l at w k c, q)

-- WHAT WORDS THAT PASS have passed.
pub record AllPassed (l : Limits) (ws : List ℕ) : Type 0 where
  pub some : 0 < length ws
  pub first : kind (get_or ws 0 0) ≡ 0
  pub placed : placed_from false (first_item ws) (items ws) ≡ passed
  pub relation : relation_checked ws ≡ passed
  pub lowers : each_from lower_checked (first_item ws) (items ws) ≡ passed
  pub count : up_to (term_limit l) (length (terms_in ws)) ≡ true
  pub terms : each_from term_checked (first_item ws) (items ws) ≡ passed

pub checked_all : (l : Limits) (ws : List ℕ) → checked l ws ≡ passed → AllPassed l ws
unfolding checked
checked_all l [] e = refused_fails NoWords e
checked_all l (w ∷ ws) e =
    let us = w ∷ ws in
    let terms : Checked = each_from term_checked (first_item us) (items us) in
    let counted : Checked = and_then (count_checked l (length us) (length (terms_in us))) terms in
    let lowers : Checked = and_then (each_from lower_checked (first_item us) (items us)) counted in
    let one = both_passed (unless (eqb (kind w) 0) (WrongKind 0)) (and_then (placed_from false (first_item us) (items us)) (items_checked l us)) e in
    let two = both_passed (placed_from false (first_item us) (items us)) (items_checked l us) one.1 in
    let three = both_passed (relation_checked us) lowers two.1 in
    let four = both_passed (each_from lower_checked (first_item us) (items us)) counted three.1 in
    let five = both_passed (count_checked l (length us) (length (terms_in us))) terms four.1 in
    record {
      some = omega arith;
      first = eqb-true (kind w) 0 (unless_passed (eqb (kind w) 0) (WrongKind 0) one.0);
      placed = two.0;
      relation = three.0;
      lowers = four.0;
      count = unless_passed (up_to (term_limit l) (length (terms_in us))) (TermCount (length us)) five.0;
      terms = five.1;
    }

-- WORDS THAT PASS, under whatever limits, state a constraint within document 01's.
pub checked_within : (l : Limits) (ws : List ℕ) → checked l ws ≡ passed → Within (stated ws)
unfolding stated as_written
checked_within l ws e =
    let s = checked_all l ws e in
    let count = up_to_lem (term_limit l) (length (terms_in ws)) s.count in
    record {
      some = rw length-map count.0;
      few = rw length-map (omega (arith, count.1));
      each = each_limited (pos 0) (first_item ws) (items ws) s.terms;
    }
