-- WHOLE NUMBERS AS DIFFERENCES of two natural ones, in which facts about sums, products and order are linear. Assumes nothing.
use mathlib.Core.Path.{◌≡◌, refl, ap, ◌∙◌}
use mathlib.Core.Logic.{◌↔◌}
use mathlib.Core.Bool.{Bool, true, false, cond}
use Prim.Native.Nat.{ℕ, zero, suc, ◌+◌, ◌-◌, ◌*◌, ◌≤◌}
use native.Mathlib.Nat.{mul-add}
use native.Mathlib.Omega.{arith}
use borrow.Author.Tests.{ltb-true, ltb-false}
use lib.Dec.{ltb}
use lib.IntN.{ℤ, pos, negsuc, suc_ℤ, pred_ℤ, neg_ℤ, sub_ℕ, ◌+ℤ◌, ◌-ℤ◌, ◌*ℤ◌}
use Rattle.diagram.specs.Level.{AtMost}
use Rattle.inequality.specs.Written.{NoMore}

-- z is a less b.
abbrev pub Is : ℤ → ℕ → ℕ → Type 0
Is (pos n) a b = a ≡ b + n
Is (negsuc n) a b = b ≡ a + suc n

-- Every whole number is a difference.
abbrev pub plus_of : ℤ → ℕ
plus_of (pos n) = n
plus_of (negsuc n) = 0

abbrev pub minus_of : ℤ → ℕ
minus_of (pos n) = 0
minus_of (negsuc n) = suc n

pub is_own : (z : ℤ) → Is z (plus_of z) (minus_of z)
is_own (pos n) = omega arith
is_own (negsuc n) = omega arith

pub is_sub : (p q a b : ℕ) → p + b ≡ a + q → Is (sub_ℕ p q) a b
is_sub p q a b e = go (ltb p q) refl
  where
    go : (t : Bool) → ltb p q ≡ t → Is (cond t (negsuc (q - suc p)) (pos (p - q))) a b
    go true f = let h = ltb-true p q f in omega arith
    go false f = let h = ltb-false p q f in omega arith

-- The same whole number as another difference, and two differences of one number.
pub is_also : (x : ℤ) (a b c d : ℕ) → Is x a b → a + d ≡ c + b → Is x c d
is_also (pos n) a b c d p e = omega arith
is_also (negsuc n) a b c d p e = omega arith

pub is_one : (x : ℤ) (a b c d : ℕ) → Is x a b → Is x c d → a + d ≡ c + b
is_one (pos n) a b c d p q = omega arith
is_one (negsuc n) a b c d p q = omega arith

pub is_same : (x y : ℤ) (a b c d : ℕ) → Is x a b → Is y c d → a + d ≡ c + b → x ≡ y
is_same (pos m) (pos n) a b c d p q e = ap pos (omega arith)
is_same (pos m) (negsuc n) a b c d p q e = absurd (omega arith)
is_same (negsuc m) (pos n) a b c d p q e = absurd (omega arith)
is_same (negsuc m) (negsuc n) a b c d p q e = ap negsuc (omega arith)

-- Sums, negation, products, and one more or less.
pub is_add : (x y : ℤ) (a b c d : ℕ) → Is x a b → Is y c d → Is (x +ℤ y) (a + c) (b + d)
is_add (pos m) (pos n) a b c d p q = omega arith
is_add (pos m) (negsuc n) a b c d p q = is_sub m (suc n) (a + c) (b + d) (omega arith)
is_add (negsuc m) (pos n) a b c d p q = is_sub n (suc m) (a + c) (b + d) (omega arith)
is_add (negsuc m) (negsuc n) a b c d p q = omega arith

pub is_above : (x : ℤ) (y a b : ℕ) → Is x a b → Is (x +ℤ pos y) (a + y) b
is_above x y a b p = is_also (x +ℤ pos y) (a + y) (b + 0) (a + y) b (is_add x (pos y) a b y 0 p (omega arith)) (omega arith)

pub is_neg : (x : ℤ) (a b : ℕ) → Is x a b → Is (neg_ℤ x) b a
is_neg (pos zero) a b p = omega arith
is_neg (pos (suc n)) a b p = omega arith
is_neg (negsuc n) a b p = omega arith

pub is_less : (x y : ℤ) (a b c d : ℕ) → Is x a b → Is y c d → Is (x -ℤ y) (a + d) (b + c)
is_less x y a b c d p q = is_add x (neg_ℤ y) a b d c p (is_neg y c d q)

pub is_mul : (k : ℕ) (x : ℤ) (a b : ℕ) → Is x a b → Is (pos k *ℤ x) (k * a) (k * b)
is_mul k (pos n) a b p = ap (λ (m : ℕ). k * m) p ∙ mul-add k b n
is_mul k (negsuc n) a b p = is_neg (pos (k * suc n)) (k * b) (k * a) (ap (λ (m : ℕ). k * m) p ∙ mul-add k a (suc n))

pub is_suc : (x : ℤ) (a b : ℕ) → Is x a b → Is (suc_ℤ x) (suc a) b
is_suc (pos n) a b p = omega arith
is_suc (negsuc zero) a b p = omega arith
is_suc (negsuc (suc n)) a b p = omega arith

pub is_pred : (x : ℤ) (a b : ℕ) → Is x a b → Is (pred_ℤ x) a (suc b)
is_pred (pos zero) a b p = omega arith
is_pred (pos (suc n)) a b p = omega arith
is_pred (negsuc n) a b p = omega arith

-- Order.
pub no_more : (x y : ℤ) (a b c d : ℕ) → Is x a b → Is y c d → NoMore x y ↔ (a + d ≤ c + b)
no_more (pos m) (pos n) a b c d p q = (λ h. omega arith, λ h. omega arith)
no_more (pos m) (negsuc n) a b c d p q = (λ h. absurd h, λ h. absurd (omega arith))
no_more (negsuc m) (pos n) a b c d p q = (λ h. omega arith, λ h. tt)
no_more (negsuc m) (negsuc n) a b c d p q = (λ h. omega arith, λ h. omega arith)

pub at_most_lem : (s : ℕ) (y : ℤ) (c d : ℕ) → Is y c d → AtMost s y ↔ (s + d ≤ c)
at_most_lem s (pos n) c d q = (λ h. omega arith, λ h. omega arith)
at_most_lem s (negsuc n) c d q = (λ h. absurd h, λ h. absurd (omega arith))
