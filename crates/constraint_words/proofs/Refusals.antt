-- WHAT THE CHECK REFUSES WITH: whatever holds of the refusals of constraint words, each at its places, holds of the one that the check says. Assumes nothing.
use mathlib.Core.Path.{◌≡◌, refl}
use mathlib.Core.Bool.{Bool, true, false, not, cond, ◌||◌}
use mathlib.Core.List.{List, [], ◌∷◌}
use Prim.Native.Nat.{ℕ, suc, ◌+◌, ◌≤◌, ◌<◌}
use native.Mathlib.Omega.{arith}
use lib.Dec.{eqb, leb}
use lib.IntN.{nat_abs}
use lib.ListN.{length, get_or, length-drop}
use Rattle.word.specs.Word.{kind, payload, less_half, domain_end, coefficient}
use Rattle.refusal.specs.Table.{number_of, place_of, of_words, and_then, unless}
use Rattle.refusal.specs.declared.Refusal.{Refusal}
use Rattle.refusal.specs.Table.{Checked}
use Rattle.std.specs.Prelude.{Ok, Err}
use Rattle.refusal.specs.Table.{passed}
use Rattle.refusal.specs.declared.Refusal.TheVariants.{NoWords, WrongKind, TermCount, DomainEnd, ZeroCoefficient, WrongRelation, LowerEnd}
use Rattle.diagram.specs.Constraint.{last_end}
use Rattle.limits.specs.declared.Limits.{Limits}
use Rattle.limits.specs.Limits.{term_limit}
use Rattle.inequality.specs.Written.{farthest_lower}
use Rattle.constraint_words.specs.Reading.{up_to, is_lower, has_relation, first_item, items, each_from, can_stand, placed_from, relation_checked, lower_checked, count_checked, term_checked, terms_in, checked}
use Rattle.constraint_words.proofs.Items.{first_within}

-- The refusals of n words have a property.
pub record OfWords (P : Refusal → Type 0) (n : ℕ) : Type 0 where
  pub none : P NoWords
  pub kinds : (at : ℕ) → at ≤ n → P (WrongKind at)
  pub relation : 1 ≤ n → P (WrongRelation 1)
  pub lowers : (at : ℕ) → at ≤ n → P (LowerEnd at)
  pub count : P (TermCount n)
  pub ends : (at : ℕ) → at ≤ n → P (DomainEnd at)
  pub coefficients : (at : ℕ) → at ≤ n → P (ZeroCoefficient at)

module _ (P : Refusal → Type 0) where
  -- What is refused has the property.
  abbrev pub Said : Checked → Type 0
  Said (Ok tt) = Unit {0}
  Said (Err x) = P x

  said_then : (a b : Checked) → Said a → Said b → Said (and_then a b)
  said_then (Ok tt) b p q = q
  said_then (Err x) b p q = p

  said_unless : (b : Bool) (x : Refusal) → P x → Said (unless b x)
  said_unless true x p = tt
  said_unless false x p = p

  said_cond : (b : Bool) (x y : Checked) → Said x → Said y → Said (cond b x y)
  said_cond true x y p q = p
  said_cond false x y p q = q

  said_each : (n : ℕ) (check : ℕ → ℕ → Checked) → ((at w : ℕ) → at ≤ n → Said (check at w)) → (at : ℕ) (ws : List ℕ) → at + length ws ≤ n → Said (each_from check at ws)
  unfolding each_from
  said_each n check e at [] h = tt
  said_each n check e at (w ∷ ws) h =
      said_then (check at w) (each_from check (suc at) ws) (e at w (omega arith)) (said_each n check e (suc at) ws (omega arith))

  module _ (n : ℕ) (o : OfWords P n) where
    said_placed : (due : Bool) (at : ℕ) (ws : List ℕ) → at + length ws ≤ n → Said (placed_from due at ws)
    unfolding placed_from
    said_placed due at [] h = said_unless (not due) (WrongKind at) (o.kinds at (omega arith))
    said_placed due at (w ∷ ws) h =
        said_then (unless (can_stand due (kind w)) (WrongKind at)) (placed_from (is_lower w) (suc at) ws)
        (said_unless (can_stand due (kind w)) (WrongKind at) (o.kinds at (omega arith))) (said_placed (is_lower w) (suc at) ws (omega arith))

    said_lower : (at w : ℕ) → at ≤ n → Said (lower_checked at w)
    said_lower at w h = said_unless (not (is_lower w) || leb (nat_abs (less_half w)) farthest_lower) (LowerEnd at) (o.lowers at h)

    said_term : (at w : ℕ) → at ≤ n → Said (term_checked at w)
    said_term at w h =
        said_cond (is_lower w) passed _ tt
        (said_then (unless (up_to last_end (domain_end w)) (DomainEnd at)) (unless (leb 1 (coefficient w)) (ZeroCoefficient at))
        (said_unless (up_to last_end (domain_end w)) (DomainEnd at) (o.ends at h)) (said_unless (leb 1 (coefficient w)) (ZeroCoefficient at) (o.coefficients at h)))

  -- THE REFUSAL OF WORDS is one of theirs
  pub said : (l : Limits) (ws : List ℕ) → OfWords P (length ws) → Said (checked l ws)
  unfolding checked
  said l [] o = o.none
  said l (w ∷ ws) o =
      let us = w ∷ ws in
      let n = length us in
      let first = first_item us in
      let some : 0 < n = omega arith in
      let h : first + length (items us) ≤ n = omega (arith, length-drop first us, first_within us some) in
      said_then (unless (eqb (kind w) 0) (WrongKind 0)) _ (said_unless (eqb (kind w) 0) (WrongKind 0) (o.kinds 0 (omega arith)))
      (said_then (placed_from false first (items us)) _ (said_placed n o false first (items us) h)
      (said_then (relation_checked us) _ (said_unless (not (has_relation us) || leb (payload (get_or us 1 0)) 3) (WrongRelation 1) (o.relation some))
      (said_then (each_from lower_checked first (items us)) _ (said_each n lower_checked (said_lower n o) first (items us) h)
      (said_then (count_checked l n (length (terms_in us))) _ (said_unless (up_to (term_limit l) (length (terms_in us))) (TermCount n) o.count)
      (said_each n term_checked (said_term n o) first (items us) h)))))

-- ITS NUMBER is one of those that leave lent memory untouched,
pub early : (l : Limits) (ws : List ℕ) → Said (λ x. of_words (number_of x) ≡ true) (checked l ws)
early l ws =
    said (λ x. of_words (number_of x) ≡ true) l ws
    (record {
      none = refl;
      kinds = λ at h. refl;
      relation = λ h. refl;
      lowers = λ at h. refl;
      count = refl;
      ends = λ at h. refl;
      coefficients = λ at h. refl;
    })

-- and ITS PLACE is one of the list, or its length.
pub placed_within : (l : Limits) (ws : List ℕ) → Said (λ x. place_of x ≤ length ws) (checked l ws)
placed_within l ws =
    said (λ x. place_of x ≤ length ws) l ws
    (record {
      none = omega arith;
      kinds = λ at h. h;
      relation = λ h. h;
      lowers = λ at h. h;
      count = omega arith;
      ends = λ at h. h;
      coefficients = λ at h. h;
    })
