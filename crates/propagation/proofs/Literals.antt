-- LITERALS AND BYTES: literals are told apart by a test; a byte is true, false or open for a literal, and one of these only. Assumes nothing.
use mathlib.Core.Path.{◌≡◌, refl, sym, ap, subst, ◌∙◌}
use mathlib.Core.Logic.{◌⊎◌, inl, inr}
use mathlib.Core.List.{List}
use mathlib.Core.Bool.{Bool, true, false, not, ◌&&◌, true≢false}
use Prim.Native.Nat.{ℕ}
use native.Mathlib.Omega.{arith}
use lib.Dec.{eqb}
use borrow.Author.Tests.{eqb-true, eqb-false}
use Rattle.clause.specs.Meaning.{Literal, same}
use Rattle.clause.proofs.Truth.{same_iff}
use Rattle.propagation.specs.Derived.{byte_of, byte, TrueIn, opposite}
use Rattle.propagation.specs.Propagated.{same_literal}

pub same_literal-true : (k l : Literal) → same_literal k l ≡ true → k ≡ l
same_literal-true k l e = go (eqb k.of l.of) refl e
  where
    go : (x : Bool) → eqb k.of l.of ≡ x → x && same k.says l.says ≡ true → k ≡ l
    go true f e = λ i. record { of = eqb-true k.of l.of f i; says = (same_iff k.says l.says).0 e i }
    go false f e = absurd (true≢false (sym e))

pub same_literal-false : (k l : Literal) → same_literal k l ≡ false → k ≡ l → ⊥
same_literal-false k l e q = go (eqb k.of l.of) refl e
  where
    go : (x : Bool) → eqb k.of l.of ≡ x → x && same k.says l.says ≡ false → ⊥
    go true f e = true≢false (sym ((same_iff k.says l.says).1 (ap (λ (x : Literal). x.says) q)) ∙ e)
    go false f e = eqb-false k.of l.of f (ap (λ (x : Literal). x.of) q)

-- no truth value is its own opposite
pub not_same : (x : Bool) → not x ≡ x → ⊥
not_same true e = true≢false (sym e)
not_same false e = true≢false e

-- two literals are the same or not
pub literals_decide : (k l : Literal) → (k ≡ l) ⊎ ¬ (k ≡ l)
literals_decide k l = go (same_literal k l) refl
  where
    go : (x : Bool) → same_literal k l ≡ x → (k ≡ l) ⊎ ¬ (k ≡ l)
    go true e = inl (same_literal-true k l e)
    go false e = inr (same_literal-false k l e)

-- the opposite of the opposite
pub opposite_twice : (l : Literal) → opposite (opposite l) ≡ l
opposite_twice l = λ i. record { of = l.of; says = twice l.says i }
  where
    twice : (x : Bool) → not (not x) ≡ x
    twice true = refl
    twice false = refl

-- what holds of the opposite of a literal
pub opposite_same : (S : Literal → Type 0) (k l : Literal) → k ≡ l → S (opposite l) → S (opposite k)
opposite_same S k l e t = subst (λ (x : Literal). S (opposite x)) (sym e) t

-- no literal is true together with its opposite
pub byte_not : (x : Bool) (n : ℕ) → n ≡ byte x → n ≡ byte (not x) → ⊥
byte_not true n e f = omega arith
byte_not false n e f = omega arith

pub not_both_true : (bs : List ℕ) (l : Literal) → TrueIn bs l → TrueIn bs (opposite l) → ⊥
not_both_true bs l t f = byte_not l.says (byte_of bs l.of) t f

pub byte_same : (x y : Bool) → byte x ≡ byte y → x ≡ y
byte_same true true e = refl
byte_same false false e = refl
byte_same true false e = absurd (omega arith)
byte_same false true e = absurd (omega arith)

-- AN OPEN LITERAL is neither true nor false
abbrev pub OpenIn : List ℕ → Literal → Type 0
OpenIn bs l = (TrueIn bs l → ⊥) × (TrueIn bs (opposite l) → ⊥)
