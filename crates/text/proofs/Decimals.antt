-- Bytes one by one, and decimals: the last digit stands behind those of the tenth, so decimals grow by a last digit, and a number below a power of ten has no
-- more digits than that. Assumes nothing.
use mathlib.Core.Path.{◌≡◌, refl, sym, ap, subst, ◌∙◌}
use mathlib.Core.List.{List, [], ◌∷◌, ◌++◌}
use mathlib.Core.Bool.{Bool, true, false, cond}
use Prim.Native.Nat.{ℕ, zero, suc, ◌+◌, ◌*◌, ◌/◌, ◌%◌, ◌≤◌, ◌<◌}
use native.Mathlib.Nat.{not-suc-le-zero}
use native.Mathlib.Numerals.{add-one}
use native.Mathlib.Omega.{arith}
use lib.Dec.{ltb}
use lib.ListN.{length, get_or, drop, length-append}
use lib.Seq.{drop-cons}
use borrow.Author.Tests.{lt-ltb, le-ltb, ltb-true, ltb-false}
use Rattle.word.proofs.Kept.{Parts}
use Rattle.text.specs.Decimal.{decimal_in, decimal}

-- ---- Bytes

pub byte_turn : (text : List ℕ) (i : ℕ) → i < length text → Parts (drop i text) (get_or text i 0 ∷ []) (drop (i + 1) text)
byte_turn text i h = record { joined = rw (drop-cons text i 0, add-one) }

-- ---- Decimals

-- a number has no more digits than it says itself
enough : (f g n : ℕ) → n < f → n < g → decimal_in f n ≡ decimal_in g n
unfolding decimal_in
enough zero g n h k = absurd (not-suc-le-zero h)
enough (suc f) zero n h k = absurd (not-suc-le-zero k)
enough (suc f) (suc g) n h k = go (ltb n 10) refl (λ m p q. enough f g m p q)
  where
    go : (b : Bool) → ltb n 10 ≡ b → ((m : ℕ) → m < f → m < g → decimal_in f m ≡ decimal_in g m)
        → cond b ((48 + n) ∷ []) (decimal_in f (n / 10) ++ ((48 + n % 10) ∷ [])) ≡ cond b ((48 + n) ∷ []) (decimal_in g (n / 10) ++ ((48 + n % 10) ∷ []))
    go true e s = refl
    go false e s =
        let l = ltb-false n 10 e in
        ap (λ (xs : List ℕ). xs ++ ((48 + n % 10) ∷ [])) (s (n / 10) (omega arith) (omega arith))

pub decimal_one : (n : ℕ) → n < 10 → decimal n ≡ (48 + n) ∷ []
unfolding decimal decimal_in
decimal_one n h = rw (lt-ltb n 10 h)

pub decimal_more : (n : ℕ) → 10 ≤ n → decimal n ≡ decimal (n / 10) ++ ((48 + n % 10) ∷ [])
unfolding decimal decimal_in
decimal_more n h =
    rw (le-ltb n 10 h) (ap (λ (xs : List ℕ). xs ++ ((48 + n % 10) ∷ [])) (enough n (suc (n / 10)) (n / 10) (omega arith) (omega arith)))

-- how decimals grow: a digit, or one digit more behind a number other than 0
pub data Decimal : ℕ → List ℕ → Type 0 where
  digit : {d : ℕ} → d < 10 → Decimal d ((48 + d) ∷ [])
  more : {v d : ℕ} {x : List ℕ} → 0 < v → d < 10 → Decimal v x → Decimal (10 * v + d) (x ++ ((48 + d) ∷ []))

grows : (f n : ℕ) → n < f → Decimal n (decimal n)
grows zero n h = absurd (not-suc-le-zero h)
grows (suc f) n h = go (ltb n 10) refl (λ m k. grows f m k)
  where
    go : (b : Bool) → ltb n 10 ≡ b → ((m : ℕ) → m < f → Decimal m (decimal m)) → Decimal n (decimal n)
    go true e s = let l = ltb-true n 10 e in subst (Decimal n) (sym (decimal_one n l)) (digit l)
    go false e s =
        let l = ltb-false n 10 e in
        let z : 10 * (n / 10) + n % 10 ≡ n = omega arith in
        subst (Decimal n) (sym (decimal_more n l))
        (subst (λ (v : ℕ). Decimal v (decimal (n / 10) ++ ((48 + n % 10) ∷ []))) z (more (omega arith) (omega arith) (s (n / 10) (omega arith))))

pub decimal_grows : (n : ℕ) → Decimal n (decimal n)
decimal_grows n = grows (suc n) n (omega arith)

pub grown_decimal : {n : ℕ} {x : List ℕ} → Decimal n x → x ≡ decimal n
grown_decimal (digit {d} h) = sym (decimal_one d h)
grown_decimal (more {v} {d} p h k) =
    let q : (10 * v + d) / 10 ≡ v = omega arith in
    let r : (10 * v + d) % 10 ≡ d = omega arith in
    ap (λ (x : List ℕ). x ++ ((48 + d) ∷ [])) (grown_decimal k)
    ∙ sym (decimal_more (10 * v + d) (omega arith) ∙ (λ i. decimal (q i) ++ ((48 + r i) ∷ [])))

-- ---- Lengths

pub digits_one : (n : ℕ) → n < 10 → 1 ≡ length (decimal n)
digits_one n h = omega (arith, ap length (decimal_one n h))

pub digits_more : (n : ℕ) → 10 ≤ n → length (decimal (n / 10)) + 1 ≡ length (decimal n)
digits_more n h = omega (arith, ap length (decimal_more n h), length-append (decimal (n / 10)) ((48 + n % 10) ∷ []))

pub decimal_some : (n : ℕ) → 1 ≤ length (decimal n)
decimal_some n = go (ltb n 10) refl
  where
    go : (b : Bool) → ltb n 10 ≡ b → 1 ≤ length (decimal n)
    go true e = omega (arith, digits_one n (ltb-true n 10 e))
    go false e = omega (arith, digits_more n (ltb-false n 10 e))

abbrev pub tens : ℕ → ℕ
tens zero = 1
tens (suc d) = 10 * tens d

pub digits_few : (d n : ℕ) → n < tens (suc d) → length (decimal n) ≤ suc d
digits_few zero n h = omega (arith, digits_one n (omega arith))
digits_few (suc d) n h = go (ltb n 10) refl (λ m k. digits_few d m k)
  where
    go : (b : Bool) → ltb n 10 ≡ b → ((m : ℕ) → m < tens (suc d) → length (decimal m) ≤ suc d) → length (decimal n) ≤ suc (suc d)
    go true e f = omega (arith, digits_one n (ltb-true n 10 e))
    go false e f = let l = ltb-false n 10 e in omega (arith, digits_more n l, f (n / 10) (omega arith))

-- a number has no more digits than it says itself, and one
digits_most : (f n : ℕ) → length (decimal_in f n) ≤ f
unfolding decimal_in
digits_most zero n = omega arith
digits_most (suc f) n = go (ltb n 10) (digits_most f (n / 10))
  where
    go : (p : Bool) → length (decimal_in f (n / 10)) ≤ f → length (cond p ((48 + n) ∷ []) (decimal_in f (n / 10) ++ ((48 + n % 10) ∷ []))) ≤ suc f
    go true h = omega arith
    go false h = omega (arith, length-append (decimal_in f (n / 10)) ((48 + n % 10) ∷ []))

pub decimal_most : (n : ℕ) → length (decimal n) ≤ suc n
unfolding decimal
decimal_most n = digits_most (suc n) n
