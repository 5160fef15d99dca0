-- THE GAP: over one list behind another, after one record more, and where the first p records are those that lie before; that a record lies before is one
-- comparison of keys. Each law by induction on the records or by the cases of the test. Assumes nothing.
use mathlib.Core.Path.{◌≡◌, refl, sym, ap, ◌∙◌}
use mathlib.Core.Logic.{⊎_elim}
use mathlib.Core.List.{List, [], ◌∷◌, ◌++◌}
use mathlib.Core.Bool.{Bool, true, false, ◌&&◌, ◌||◌}
use Prim.Native.Nat.{ℕ, zero, suc, ◌+◌, ◌≤◌, ◌<◌, zero-le, suc-le-suc}
use native.Mathlib.Nat.{not-suc-le-zero, le_of_suc-le-suc, eq-or-lt_of_le}
use native.Mathlib.Omega.{arith}
use lib.Dec.{eqb, ltb}
use lib.ListN.{length, get_or, take}
use lib.Seq.{take-suc}
use borrow.Author.Tests.{eqb-true, eqb-false, ltb-true, ltb-false, lt-ltb, le-ltb}
use Rattle.word.specs.Record.{Record, no_record}
use Rattle.finder.specs.Find.{fields_before, lies_before, bit_of, gap_in, key}

pub bit_most : (b : Bool) → bit_of b ≤ 1
bit_most true = omega arith
bit_most false = omega arith

pub gap_append : (xs ys : List Record) (wanted r : ℕ) → gap_in (xs ++ ys) wanted r ≡ gap_in xs wanted r + gap_in ys wanted r
unfolding gap_in
gap_append [] ys wanted r = omega arith
gap_append (x ∷ xs) ys wanted r = let h = gap_append xs ys wanted r in omega arith

pub gap_most : (xs : List Record) (wanted r : ℕ) → gap_in xs wanted r ≤ length xs
unfolding gap_in
gap_most [] wanted r = zero-le
gap_most (x ∷ xs) wanted r = let h = gap_most xs wanted r in omega (arith, bit_most (lies_before x wanted r))

-- One record more.
pub gap_next : (xs : List Record) (k : ℕ) (x : Record) (wanted r : ℕ) → k < length xs
    → gap_in (take (suc k) xs) wanted r ≡ gap_in (take k xs) wanted r + bit_of (lies_before (get_or xs k x) wanted r)
unfolding gap_in
gap_next xs k x wanted r h =
    omega (arith, ap (λ (l : List Record). gap_in l wanted r) (take-suc xs k x h) ∙ gap_append (take k xs) (get_or xs k x ∷ []) wanted r)

-- THE GAP OF A SPLIT LIST: the first p records lie before, and no other does.
pub gap_split : (xs : List Record) (p wanted r : ℕ) → p ≤ length xs
    → ((k : ℕ) → k < p → lies_before (get_or xs k no_record) wanted r ≡ true)
    → ((k : ℕ) → p ≤ k → k < length xs → lies_before (get_or xs k no_record) wanted r ≡ false)
    → gap_in xs wanted r ≡ p
unfolding gap_in
gap_split [] zero wanted r h b a = refl
gap_split [] (suc p) wanted r h b a = absurd (not-suc-le-zero h)
gap_split (x ∷ xs) zero wanted r h b a =
    let again = gap_split xs zero wanted r zero-le (λ k l. absurd (not-suc-le-zero l)) (λ k l m. a (suc k) zero-le (suc-le-suc m)) in
    rw (a 0 zero-le (suc-le-suc zero-le)) (omega (arith, again))
gap_split (x ∷ xs) (suc p) wanted r h b a =
    let again = gap_split xs p wanted r (le_of_suc-le-suc h) (λ k l. b (suc k) (suc-le-suc l)) (λ k l m. a (suc k) (suc-le-suc l) (suc-le-suc m)) in
    rw (b 0 (suc-le-suc zero-le)) (omega (arith, again))

-- BY KEYS: for an upper end and a remainder that are words, one comparison says whether a record lies before.
pub before_key : (level upper wanted r : ℕ) → upper < 4294967296 → r < 4294967296 → fields_before level upper wanted r ≡ ltb (key level upper) (key wanted r)
before_key level upper wanted r h l =
    go (ltb level wanted) (eqb level wanted) (ltb upper r) (ltb-true level wanted) (ltb-false level wanted) (eqb-true level wanted) (eqb-false level wanted) (ltb-true upper r) (ltb-false upper r)
  where
    go : (a b c : Bool)
        → (a ≡ true → level < wanted)
        → (a ≡ false → wanted ≤ level)
        → (b ≡ true → level ≡ wanted)
        → (b ≡ false → level ≡ wanted → ⊥)
        → (c ≡ true → upper < r)
        → (c ≡ false → r ≤ upper)
        → (a || (b && c)) ≡ ltb (key level upper) (key wanted r)
    go true b c a₁ a₀ b₁ b₀ c₁ c₀ = sym (lt-ltb (key level upper) (key wanted r) (omega (arith, a₁ refl)))
    go false true true a₁ a₀ b₁ b₀ c₁ c₀ = sym (lt-ltb (key level upper) (key wanted r) (omega (arith, b₁ refl, c₁ refl)))
    go false true false a₁ a₀ b₁ b₀ c₁ c₀ = sym (le-ltb (key level upper) (key wanted r) (omega (arith, b₁ refl, c₀ refl)))
    go false false c a₁ a₀ b₁ b₀ c₁ c₀ = ⊎_elim (λ e. absurd (b₀ refl (sym e))) (λ m. sym (le-ltb (key level upper) (key wanted r) (omega arith))) (eq-or-lt_of_le (a₀ refl))
