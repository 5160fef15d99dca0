-- THE RANGE OF BASE BOUNDS: with document 02's limits on lower ends, and bounds of 30 bits, not farther than 4,195,376,655,424 from 0. Assumes nothing.
use mathlib.Core.Path.{◌≡◌, refl}
use mathlib.Core.Bool.{Bool, true, false, cond}
use mathlib.Core.List.{List, [], ◌∷◌, map}
use Prim.Native.Nat.{ℕ, zero, suc, ◌+◌, ◌*◌, ◌-◌, ◌≤◌, ◌<◌}
use native.Mathlib.Nat.{mul-le-mul, mul-suc}
use native.Mathlib.Omega.{arith}
use lib.Dec.{ltb}
use lib.IntN.{ℤ, pos, negsuc, pred_ℤ, neg_ℤ, nat_abs, sub_ℕ, ◌+ℤ◌, ◌*ℤ◌}
use lib.ListN.{length}
use borrow.Author.Tests.{ltb-true, ltb-false}
use Rattle.word.specs.Word.{payloads}
use Rattle.diagram.specs.Constraint.{AllLimited, Limited, most_terms, last_end, last_coefficient}
use Rattle.inequality.specs.Written.{Relation, at_most, less_than, at_least, greater_than, SignedTerm, Inequality, upper_end, farthest_lower}
use Rattle.inequality.specs.Base.{bound_by, negative_by, shift_if, shifts, base_term, base_form}

-- ---- How far whole numbers are from 0

abs_sub : (a b : ℕ) → nat_abs (sub_ℕ a b) ≤ a + b
abs_sub a b = go (ltb a b) refl
  where
    go : (p : Bool) → ltb a b ≡ p → nat_abs (cond p (negsuc (b - suc a)) (pos (a - b))) ≤ a + b
    go true e = omega (arith, ltb-true a b e)
    go false e = omega (arith, ltb-false a b e)

abs_add : (x y : ℤ) → nat_abs (x +ℤ y) ≤ nat_abs x + nat_abs y
abs_add (pos m) (pos n) = omega arith
abs_add (pos m) (negsuc n) = abs_sub m (suc n)
abs_add (negsuc m) (pos n) = omega (arith, abs_sub n (suc m))
abs_add (negsuc m) (negsuc n) = omega arith

abs_neg : (x : ℤ) → nat_abs (neg_ℤ x) ≡ nat_abs x
abs_neg (pos zero) = refl
abs_neg (pos (suc n)) = refl
abs_neg (negsuc n) = refl

abs_mul : (k : ℕ) (x : ℤ) → nat_abs (pos k *ℤ x) ≡ k * nat_abs x
abs_mul k (pos n) = refl
abs_mul k (negsuc n) = abs_neg (pos (k * suc n))

abs_pred : (x : ℤ) → nat_abs (pred_ℤ x) ≤ suc (nat_abs x)
abs_pred (pos zero) = omega arith
abs_pred (pos (suc n)) = omega arith
abs_pred (negsuc n) = omega arith

-- ---- The shifts, and the bound

-- A lower end within the limit.
abbrev pub Near : SignedTerm → Type 0
Near t = nat_abs t.lower ≤ farthest_lower

abbrev pub AllNear : List SignedTerm → Type 0
AllNear [] = Unit {0}
AllNear (t ∷ ts) = Near t × AllNear ts

product_range : (a n : ℕ) (x : ℤ) → a ≤ last_coefficient → nat_abs x ≤ n → nat_abs (pos a *ℤ x) ≤ last_coefficient * n
product_range a n x h k = rw (abs_mul a x) (mul-le-mul h k)

shift_range : (n : Bool) (t : SignedTerm) → Limited (base_term t) → Near t → nat_abs (shift_if n t) ≤ last_coefficient * (farthest_lower + last_end)
shift_range false t l h =
    let p = product_range t.magnitude farthest_lower t.lower l.3 h in
    rw (abs_neg (pos t.magnitude *ℤ t.lower)) (omega arith)
shift_range true t l h =
    let u : nat_abs (upper_end t) ≤ farthest_lower + last_end = omega (arith, abs_add t.lower (pos t.distance), l.1) in
    product_range t.magnitude (farthest_lower + last_end) (upper_end t) l.3 u

shifts_range : (r : Relation) (ts : List SignedTerm) → AllLimited (map base_term ts) → AllNear ts → nat_abs (shifts r ts) ≤ last_coefficient * (farthest_lower + last_end) * length ts
shifts_range r [] l h = omega arith
shifts_range r (t ∷ ts) l h =
    rw (mul-suc (last_coefficient * (farthest_lower + last_end)) (length ts))
    (omega (arith, abs_add (shift_if (negative_by r t) t) (shifts r ts), shift_range (negative_by r t) t l.0 h.0, shifts_range r ts l.1 h.1))

by_range : (r : Relation) (b : ℤ) → nat_abs (bound_by r b) ≤ suc (nat_abs b)
by_range at_most b = omega arith
by_range less_than b = abs_pred b
by_range at_least b = rw (abs_neg b) (omega arith)
by_range greater_than b = omega (arith, abs_pred (neg_ℤ b), abs_neg b)

-- How far from 0 a base bound may be.
abbrev pub farthest_bound : ℕ
farthest_bound = 4195376655424

-- THE RANGE
pub base_range : (q : Inequality) → AllLimited (map base_term q.terms) → AllNear q.terms → length q.terms ≤ most_terms → nat_abs q.bound < payloads
    → nat_abs (base_form q).bound ≤ farthest_bound
base_range q l h n b =
    omega (
      arith,
      abs_add (bound_by q.relation q.bound) (shifts q.relation q.terms),
      by_range q.relation q.bound,
      shifts_range q.relation q.terms l h,
    )
