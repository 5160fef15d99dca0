-- WHAT THE STATUS OF A CLAUSE SAYS of its literals: it is unit just where one literal is open and all others are false, and falsified just where all are
-- false. So a literal that is repeated counts once, and a clause with an open Boolean both ways is neither. Assumes nothing.
use mathlib.Core.Path.{◌≡◌, refl, sym, ap, subst, ◌∙◌}
use mathlib.Core.Logic.{◌↔◌, ◌⊎◌, inl, inr, ⊎_elim}
use mathlib.Core.List.{List, [], ◌∷◌}
use mathlib.Core.Bool.{Bool, true, false, cond, not}
use Prim.Native.Nat.{ℕ}
use native.Mathlib.Omega.{arith}
use lib.Dec.{eqb}
use borrow.Author.Tests.{eqb-true, eqb-false}
use Rattle.clause.specs.Meaning.{Literal, Clause}
use Rattle.propagation.specs.Derived.{byte_of, byte, TrueIn, opposite, HasLiteral}
use Rattle.propagation.specs.Propagated.{Status, neither, unit, falsified, same_literal, met_open, met, status_from, status}
use Rattle.propagation.proofs.Literals.{same_literal-true, same_literal-false, not_same, literals_decide, opposite_twice, opposite_same, not_both_true, OpenIn}

-- why a clause has its status
pub data StatusSays (bs : List ℕ) (c : Clause) : Status → Type 0 where
  has_true : (l : Literal) → HasLiteral c l → TrueIn bs l → StatusSays bs c neither
  has_two : (l k : Literal) → HasLiteral c l → HasLiteral c k → ¬ (l ≡ k) → OpenIn bs l → OpenIn bs k → StatusSays bs c neither
  has_one : (l : Literal) → HasLiteral c l → OpenIn bs l → ((k : Literal) → HasLiteral c k → ¬ (k ≡ l) → TrueIn bs (opposite k)) → StatusSays bs c (unit l)
  has_none : ((k : Literal) → HasLiteral c k → TrueIn bs (opposite k)) → StatusSays bs c falsified

-- ---- One literal more

module _ (bs : List ℕ) (l : Literal) (c : Clause) where
  says_false : TrueIn bs (opposite l) → (s : Status) → StatusSays bs c s → StatusSays bs (l ∷ c) s
  says_false r s (has_true k m t) = has_true k (inr m) t
  says_false r s (has_two k j m n d o q) = has_two k j (inr m) (inr n) d o q
  says_false r s (has_one k m o f) = has_one k (inr m) o (λ j h n. ⊎_elim (λ e. opposite_same (TrueIn bs) j l e r) (λ i. f j i n) h)
  says_false r s (has_none f) = has_none (λ j. ⊎_elim (λ e. opposite_same (TrueIn bs) j l e r) (f j))

  says_open : OpenIn bs l → (s : Status) → StatusSays bs c s → StatusSays bs (l ∷ c) (met_open l s)
  says_open o s (has_true k m t) = has_true k (inr m) t
  says_open o s (has_two k j m n d q r) = has_two k j (inr m) (inr n) d q r
  says_open o s (has_one k m q f) = go (same_literal l k) refl
    where
      go : (x : Bool) → same_literal l k ≡ x → StatusSays bs (l ∷ c) (cond x (unit k) neither)
      go true e = has_one k (inr m) q (λ j h n. ⊎_elim (λ i. absurd (n (i ∙ same_literal-true l k e))) (λ i. f j i n) h)
      go false e = has_two l k (inl refl) (inr m) (same_literal-false l k e) o q
  says_open o s (has_none f) = has_one l (inl refl) o (λ j h n. ⊎_elim (λ e. absurd (n e)) (f j) h)

  says_met : (s : Status) → StatusSays bs c s → StatusSays bs (l ∷ c) (met bs l s)
  says_met s t = go (eqb (byte_of bs l.of) (byte l.says)) refl (eqb (byte_of bs l.of) (byte (not l.says))) refl
    where
      go : (x : Bool) → eqb (byte_of bs l.of) (byte l.says) ≡ x → (y : Bool) → eqb (byte_of bs l.of) (byte (not l.says)) ≡ y
          → StatusSays bs (l ∷ c) (cond x neither (cond y s (met_open l s)))
      go true e y f = has_true l (inl refl) (eqb-true _ _ e)
      go false e true f = says_false (eqb-true _ _ f) s t
      go false e false f = says_open (eqb-false _ _ e, eqb-false _ _ f) s t

-- ---- All its literals, the first of them last

abbrev onto : Clause → Clause → Clause
onto [] d = d
onto (l ∷ c) d = onto c (l ∷ d)

says_onto : (bs : List ℕ) (c d : Clause) (s : Status) → StatusSays bs d s → StatusSays bs (onto c d) (status_from bs s c)
unfolding status_from
says_onto bs [] d s t = t
says_onto bs (l ∷ c) d s t = says_onto bs c (l ∷ d) (met bs l s) (says_met bs l d s t)

onto_has : (k : Literal) (c d : Clause) → HasLiteral c k ⊎ HasLiteral d k → HasLiteral (onto c d) k
onto_has k [] d m = ⊎_elim (λ x. absurd x) (λ x. x) m
onto_has k (l ∷ c) d m = onto_has k c (l ∷ d) (⊎_elim (⊎_elim (λ e. inr (inl e)) inl) (λ x. inr (inr x)) m)

has_onto : (k : Literal) (c d : Clause) → HasLiteral (onto c d) k → HasLiteral c k ⊎ HasLiteral d k
has_onto k [] d m = inr m
has_onto k (l ∷ c) d m = ⊎_elim (λ x. inl (inr x)) (⊎_elim (λ e. inl (inl e)) inr) (has_onto k c (l ∷ d) m)

says_same : (bs : List ℕ) (c d : Clause) → ((k : Literal) → HasLiteral c k → HasLiteral d k) → ((k : Literal) → HasLiteral d k → HasLiteral c k)
    → (s : Status) → StatusSays bs c s → StatusSays bs d s
says_same bs c d f g s (has_true l m t) = has_true l (f l m) t
says_same bs c d f g s (has_two l k m n p o q) = has_two l k (f l m) (f k n) p o q
says_same bs c d f g s (has_one l m o h) = has_one l (f l m) o (λ k i n. h k (g k i) n)
says_same bs c d f g s (has_none h) = has_none (λ k i. h k (g k i))

pub status_says : (bs : List ℕ) (c : Clause) → StatusSays bs c (status bs c)
status_says bs c =
    says_same bs (onto c []) c (λ k m. ⊎_elim (λ x. x) (λ x. absurd x) (has_onto k c [] m)) (λ k m. onto_has k c [] (inl m))
    (status_from bs falsified c) (says_onto bs c [] falsified (has_none (λ k m. absurd m)))

-- ---- The laws

-- FALSIFIED: all literals are false
pub falsified_is : (bs : List ℕ) (c : Clause) → (status bs c ≡ falsified) ↔ ((k : Literal) → HasLiteral c k → TrueIn bs (opposite k))
falsified_is bs c = (λ e. into (status bs c) e (status_says bs c), λ h. back h (status bs c) (status_says bs c))
  where
    into : (s : Status) → s ≡ falsified → StatusSays bs c s → (k : Literal) → HasLiteral c k → TrueIn bs (opposite k)
    into s e (has_none h) = h
    into s e (has_true l m t) = let z : ◌≡◌ {A = ℕ} 0 1 = cc in absurd (omega arith)
    into s e (has_two l k m n p o q) = let z : ◌≡◌ {A = ℕ} 0 1 = cc in absurd (omega arith)
    into s e (has_one l m o h) = let z : ◌≡◌ {A = ℕ} 0 1 = cc in absurd (omega arith)

    back : ((k : Literal) → HasLiteral c k → TrueIn bs (opposite k)) → (s : Status) → StatusSays bs c s → s ≡ falsified
    back h s (has_none g) = refl
    back h s (has_true l m t) = absurd (not_both_true bs l t (h l m))
    back h s (has_two l k m n p o q) = absurd (o.1 (h l m))
    back h s (has_one l m o g) = absurd (o.1 (h l m))

-- UNIT: one literal is open, and all others are false
pub record LastOpen (bs : List ℕ) (c : Clause) (l : Literal) : Type 0 where
  pub in_it : HasLiteral c l
  pub is_open : OpenIn bs l
  pub others : (k : Literal) → HasLiteral c k → ¬ (k ≡ l) → TrueIn bs (opposite k)

pub unit_is : (bs : List ℕ) (c : Clause) (l : Literal) → (status bs c ≡ unit l) ↔ LastOpen bs c l
unit_is bs c l = (λ e. into (status bs c) e (status_says bs c), λ h. back h (status bs c) (status_says bs c))
  where
    into : (s : Status) → s ≡ unit l → StatusSays bs c s → LastOpen bs c l
    into s e (has_one k m o h) =
        let f : k ≡ l = cc in
        subst (λ (x : Literal). LastOpen bs c x) f (record { in_it = m; is_open = o; others = h })
    into s e (has_none h) = let z : ◌≡◌ {A = ℕ} 0 1 = cc in absurd (omega arith)
    into s e (has_true k m t) = let z : ◌≡◌ {A = ℕ} 0 1 = cc in absurd (omega arith)
    into s e (has_two k j m n p o q) = let z : ◌≡◌ {A = ℕ} 0 1 = cc in absurd (omega arith)

    -- a literal that is not false is the one
    only : LastOpen bs c l → (k : Literal) → HasLiteral c k → (TrueIn bs (opposite k) → ⊥) → k ≡ l
    only h k m n = ⊎_elim (λ e. e) (λ d. absurd (n (h.others k m d))) (literals_decide k l)

    back : LastOpen bs c l → (s : Status) → StatusSays bs c s → s ≡ unit l
    back h s (has_true k m t) = absurd (h.is_open.0 (subst (λ (x : Literal). TrueIn bs x) (only h k m (not_both_true bs k t)) t))
    back h s (has_two k j m n p o q) = absurd (p (only h k m o.1 ∙ sym (only h j n q.1)))
    back h s (has_one k m o g) = ap unit (only h k m o.1)
    back h s (has_none g) = absurd (h.is_open.1 (g l h.in_it))

-- NEITHER: where all literals but one are false that one is true, and not all are false
pub neither_true : (bs : List ℕ) (c : Clause) → status bs c ≡ neither → (l : Literal) → HasLiteral c l
    → ((k : Literal) → HasLiteral c k → ¬ (k ≡ l) → TrueIn bs (opposite k)) → TrueIn bs l
neither_true bs c e l m h = go (status bs c) e (status_says bs c)
  where
    only : (k : Literal) → HasLiteral c k → (TrueIn bs (opposite k) → ⊥) → k ≡ l
    only k i n = ⊎_elim (λ q. q) (λ d. absurd (n (h k i d))) (literals_decide k l)

    go : (s : Status) → s ≡ neither → StatusSays bs c s → TrueIn bs l
    go s e (has_true k n t) = subst (λ (x : Literal). TrueIn bs x) (only k n (not_both_true bs k t)) t
    go s e (has_two k j n i d o q) = absurd (d (only k n o.1 ∙ sym (only j i q.1)))
    go s e (has_one k n o g) = let z : ◌≡◌ {A = ℕ} 0 1 = cc in absurd (omega arith)
    go s e (has_none g) = let z : ◌≡◌ {A = ℕ} 0 1 = cc in absurd (omega arith)

pub neither_not_false : (bs : List ℕ) (c : Clause) → status bs c ≡ neither → ((k : Literal) → HasLiteral c k → TrueIn bs (opposite k)) → ⊥
neither_not_false bs c e h = let f = (falsified_is bs c).1 h in let z : ◌≡◌ {A = ℕ} 0 1 = cc in omega arith

-- A Boolean that is open both ways in a clause: it is neither
pub both_ways_neither : (bs : List ℕ) (c : Clause) (l : Literal) → HasLiteral c l → HasLiteral c (opposite l) → OpenIn bs l → status bs c ≡ neither
both_ways_neither bs c l m n o = go (status bs c) (status_says bs c)
  where
    back : TrueIn bs (opposite (opposite l)) → ⊥
    back t = o.0 (subst (λ (x : Literal). TrueIn bs x) (opposite_twice l) t)

    go : (s : Status) → StatusSays bs c s → s ≡ neither
    go s (has_true k i t) = refl
    go s (has_two k j i u d p q) = refl
    go s (has_none g) = absurd (o.1 (g l m))
    go s (has_one k i p g) = absurd (⊎_elim left (λ d. o.1 (g l m d)) (literals_decide l k))
      where
        left : l ≡ k → ⊥
        left e = back (g (opposite l) n (λ q. not_same l.says (ap (λ (x : Literal). x.says) (q ∙ sym e))))
