-- The bound by what the record holds of it: below 0, or its value. Assumes nothing.
use mathlib.Core.Path.{◌≡◌, refl, sym, ap}
use Prim.Native.Nat.{ℕ}
use native.Mathlib.Omega.{arith}
use lib.IntN.{ℤ, pos, negsuc}
use Rattle.constraint_bound.specs.Bound.{bound_of}
use Rattle.constraint_bound.specs.declared.Bound.{Bound}
use Rattle.constraint_bound.specs.declared.Bound.TheVariants.{Negative, Natural}

pub negative_is : (a : ℤ) → Negative ≡ bound_of a → (z : ℕ) × (a ≡ negsuc z)
negative_is (pos z) e = let x : ◌≡◌ {A = ℕ} 0 1 = cc in absurd (omega arith)
negative_is (negsuc z) e = (z, refl)

pub natural_is : (a : ℤ) (n : ℕ) → Natural n ≡ bound_of a → a ≡ pos n
natural_is (pos z) n e = ap (λ (b : Bound). pos (value b)) (sym e)
  where
    value : Bound → ℕ
    value Negative = 0
    value (Natural x) = x
natural_is (negsuc z) n e = let x : ◌≡◌ {A = ℕ} 0 1 = cc in absurd (omega arith)
