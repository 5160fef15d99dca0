-- HOW MUCH A TEXT SAYS: each number takes a blank and a digit, so a text says at most a word for each two of its bytes. Assumes nothing.
use mathlib.Core.Path.{ap}
use mathlib.Core.Bool.{Bool}
use mathlib.Core.List.{List, ◌∷◌, ◌++◌}
use Prim.Native.Nat.{ℕ, ◌*◌, ◌≤◌}
use native.Mathlib.Omega.{arith}
use lib.ListN.{length, length-append}
use Rattle.text.specs.Decimal.{decimal}
use Rattle.text.proofs.Decimals.{decimal_some}
use Rattle.dimacs_text.specs.Text.{sign, Numbers, end, literal, close, Legal}

numbers_few : {n l k : ℕ} {f : Bool} {t ws : List ℕ} → Numbers n f l k t ws → 2 * length ws ≤ length t
numbers_few (end r) = omega arith
numbers_few (literal {s} {t} says v g h p q b r) =
    omega (
      arith,
      numbers_few r,
      decimal_some v,
      length-append s (sign says ++ (decimal v ++ t)),
      length-append (sign says) (decimal v ++ t),
      length-append (decimal v) t,
    )
numbers_few (close {s} {t} g h r) = omega (arith, numbers_few r, length-append s (48 ∷ t))

pub legal_few : (t ws : List ℕ) → Legal t ws → 2 * length ws ≤ length t
legal_few t ws l =
    let p = l.4 in
    let cnf = p.4.4 in
    let first = cnf.4.4 in
    let second = first.4.4 in
    omega (
      arith,
      ap length l.2,
      length-append l.0 l.1,
      ap length p.2,
      length-append p.0 p.1,
      ap length p.4.2,
      length-append p.4.0 p.4.1,
      ap length cnf.2,
      length-append cnf.0 cnf.1,
      ap length cnf.4.2,
      length-append cnf.4.0 cnf.4.1,
      ap length first.2,
      length-append (decimal first.0) first.1,
      ap length first.4.2,
      length-append first.4.0 first.4.1,
      ap length second.2,
      length-append (decimal second.0) second.1,
      numbers_few second.4,
    )
