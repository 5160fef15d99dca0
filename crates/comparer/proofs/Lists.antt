-- THE TEST OF TWO LISTS is equality, by induction. Assumes nothing.
use mathlib.Core.Path.{◌≡◌, refl, sym, ap₂}
use mathlib.Core.Logic.{◌↔◌}
use mathlib.Core.List.{List, [], ◌∷◌}
use mathlib.Core.Bool.{Bool, true, false, ◌&&◌, true≢false}
use Prim.Native.Nat.{ℕ}
use lib.Dec.{eqb}
use borrow.Author.Tests.{eqb-true, eq-eqb}
use Rattle.comparer.specs.Bytes.{eq_list}

eq_list_self : (xs : List ℕ) → eq_list xs xs ≡ true
unfolding eq_list
eq_list_self [] = refl
eq_list_self (x ∷ xs) = rw (eq-eqb x x refl) (eq_list_self xs)

eq_list_sound : (xs ys : List ℕ) → eq_list xs ys ≡ true → xs ≡ ys
unfolding eq_list
eq_list_sound [] [] e = refl
eq_list_sound [] (y ∷ ys) e = absurd (true≢false (sym e))
eq_list_sound (x ∷ xs) [] e = absurd (true≢false (sym e))
eq_list_sound (x ∷ xs) (y ∷ ys) e = go (eqb x y) refl (λ f. eq_list_sound xs ys f) e
  where
    go : (b : Bool) → eqb x y ≡ b → (eq_list xs ys ≡ true → xs ≡ ys) → (b && eq_list xs ys) ≡ true → ◌≡◌ {A = List ℕ} (x ∷ xs) (y ∷ ys)
    go true p again f = ap₂ (λ (z : ℕ) (zs : List ℕ). z ∷ zs) (eqb-true x y p) (again f)
    go false p again f = absurd (true≢false (sym f))

pub eq_list_lem : (xs ys : List ℕ) → (eq_list xs ys ≡ true) ↔ (xs ≡ ys)
eq_list_lem xs ys = (eq_list_sound xs ys, λ e. rw e (eq_list_self ys))

-- It is false where they are not equal.
pub ne_list : (xs ys : List ℕ) → ¬ (xs ≡ ys) → eq_list xs ys ≡ false
ne_list xs ys n = go (eq_list xs ys) refl
  where
    go : (b : Bool) → eq_list xs ys ≡ b → b ≡ false
    go true e = absurd (n ((eq_list_lem xs ys).0 e))
    go false e = refl
