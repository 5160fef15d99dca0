-- Tests and verdicts of the machine that reads a byte at a time, taken apart. Assumes nothing.
use mathlib.Core.Path.{◌≡◌, refl}
use mathlib.Core.Bool.{Bool, true, false, cond}
use mathlib.Core.List.{List}
use Prim.Native.Nat.{ℕ}
use native.Mathlib.Omega.{arith}
use Rattle.dimacs_text.specs.Claim.{words, wrong}
use Rattle.dimacs_text.specs.Machine.{Next}

pub cond_elim : (P : Next → Type 0) (p : Bool) (x y : Next) → (p ≡ true → P x) → (p ≡ false → P y) → P (cond p x y)
cond_elim P true x y f g = f refl
cond_elim P false x y f g = g refl

pub no_wrong : (k : ℕ) (ws : List ℕ) {A : Type 0} → wrong k ≡ words ws → A
no_wrong k ws e = let z : ◌≡◌ {A = ℕ} 0 1 = cc in absurd (omega arith)
