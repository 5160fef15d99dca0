-- EACH IN TURN: what it says that a row of words, or a list of records, passes a test of each. By induction over the list. Assumes nothing.
use mathlib.Core.Path.{◌≡◌, refl}
use mathlib.Core.List.{List, [], ◌∷◌}
use mathlib.Core.Bool.{Bool, true, false}
use Prim.Native.Nat.{ℕ, zero, suc, ◌+◌, ◌<◌}
use native.Mathlib.Nat.{not-suc-le-zero, le_of_suc-le-suc}
use native.Mathlib.Omega.{arith}
use lib.ListN.{length, get_or}
use Rattle.word.specs.Record.{Record, no_record}
use Rattle.word.proofs.Tests.{both_true, true_both}
use Rattle.refusal.specs.Table.{and_then, unless}
use Rattle.refusal.specs.Table.{Checked}
use Rattle.std.specs.Prelude.{Ok, Err}
use Rattle.refusal.specs.declared.Refusal.TheVariants.{BadRecord}
use Rattle.marking.specs.Judged.{each_value, each_record}

-- the words of a row
pub value_passes : (test : ℕ → ℕ → Bool) (j : ℕ) (ws : List ℕ) → each_value test j ws ≡ true → (i : ℕ) → i < length ws → test (j + i) (get_or ws i 0) ≡ true
unfolding each_value
value_passes test j [] p i h = absurd (not-suc-le-zero h)
value_passes test j (w ∷ ws) p zero h = let e : j + 0 ≡ j = omega arith in rw e (both_true (test j w) (each_value test (suc j) ws) p).0
value_passes test j (w ∷ ws) p (suc i) h =
    let e : j + suc i ≡ suc j + i = omega arith in
    rw e (value_passes test (suc j) ws (both_true (test j w) (each_value test (suc j) ws) p).1 i (le_of_suc-le-suc h))

pub passes_value : (test : ℕ → ℕ → Bool) (j : ℕ) (ws : List ℕ) → ((i : ℕ) → i < length ws → test (j + i) (get_or ws i 0) ≡ true) → each_value test j ws ≡ true
unfolding each_value
passes_value test j [] p = refl
passes_value test j (w ∷ ws) p =
    true_both (let e : j + 0 ≡ j = omega arith in rw e at (p 0 (omega arith)))
    (passes_value test (suc j) ws (λ i h. let e : j + suc i ≡ suc j + i = omega arith in rw e at (p (suc i) (omega arith))))

-- THE RECORDS, from number k on: all pass, or the refusal names the first that fails
abbrev pub Told : (ℕ → Record → Bool) → ℕ → List Record → Checked → Type 0
Told test k xs (Ok tt) = (i : ℕ) → i < length xs → test (k + i) (get_or xs i no_record) ≡ true
Told test k xs (Err x) =
    (i : ℕ) × (x ≡ BadRecord (k + i)) × (i < length xs) × (test (k + i) (get_or xs i no_record) ≡ false) × ((m : ℕ) → m < i → test (k + m) (get_or xs m no_record) ≡ true)

-- one record more in front
module _ (test : ℕ → Record → Bool) (k : ℕ) (x : Record) (xs : List Record) (e : test k x ≡ true) where
  more_pass : (n : ℕ) → ((i : ℕ) → i < n → test (suc k + i) (get_or xs i no_record) ≡ true)
      → (i : ℕ) → i < suc n → test (k + i) (get_or (x ∷ xs) i no_record) ≡ true
  more_pass n t zero h = let f : k + 0 ≡ k = omega arith in rw f e
  more_pass n t (suc i) h = let f : k + suc i ≡ suc k + i = omega arith in rw f (t i (le_of_suc-le-suc h))

  told_more : (c : Checked) → Told test (suc k) xs c → Told test k (x ∷ xs) c
  told_more (Ok tt) t = more_pass (length xs) t
  told_more (Err r) t =
      let f : k + suc t.0 ≡ suc k + t.0 = omega arith in
      (suc t.0, rw f t.1, omega (arith, t.2), rw f t.3, more_pass t.0 t.4)

pub records_told : (test : ℕ → Record → Bool) (k : ℕ) (xs : List Record) → Told test k xs (each_record test k xs)
unfolding each_record
records_told test k [] = λ i h. absurd (not-suc-le-zero h)
records_told test k (x ∷ xs) = go (test k x) refl (records_told test (suc k) xs)
  where
    go : (t : Bool) → test k x ≡ t → Told test (suc k) xs (each_record test (suc k) xs) → Told test k (x ∷ xs) (and_then (unless t (BadRecord k)) (each_record test (suc k) xs))
    go true e t = told_more test k x xs e (each_record test (suc k) xs) t
    go false e t = let f : k + 0 ≡ k = omega arith in (0, rw f refl, omega arith, rw f e, λ m h. absurd (not-suc-le-zero h))
