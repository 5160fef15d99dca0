-- RECORDS IN ORDER, by number. Each law by induction on the records. Assumes nothing.
use mathlib.Core.List.{List, [], ◌∷◌}
use Prim.Native.Nat.{ℕ, zero, suc, ◌<◌, zero-le, suc-le-suc}
use native.Mathlib.Nat.{not-suc-le-zero, le_of_suc-le-suc}
use lib.ListN.{length, get_or}
use Rattle.word.specs.Record.{Record, no_record}
use Rattle.search_ordered.specs.Order.{Before, Proper, All, Sorted}

-- What holds of all holds of each number's record.
pub all_at : (P : Record → Type 0) (xs : List Record) → All P xs → (k : ℕ) → k < length xs → P (get_or xs k no_record)
unfolding All
all_at P [] a k h = absurd (not-suc-le-zero h)
all_at P (x ∷ xs) a zero h = a.0
all_at P (x ∷ xs) a (suc k) h = all_at P xs a.1 k (le_of_suc-le-suc h)

pub all_of : (P : Record → Type 0) (xs : List Record) → ((k : ℕ) → k < length xs → P (get_or xs k no_record)) → All P xs
unfolding All
all_of P [] h = tt
all_of P (x ∷ xs) h = (h 0 (suc-le-suc zero-le), all_of P xs (λ k l. h (suc k) (suc-le-suc l)))

pub sorted_at : (xs : List Record) → Sorted xs → (p q : ℕ) → p < q → q < length xs → Before (get_or xs p no_record) (get_or xs q no_record)
unfolding Sorted
sorted_at [] s p q l h = absurd (not-suc-le-zero h)
sorted_at (x ∷ xs) s zero zero l h = absurd (not-suc-le-zero l)
sorted_at (x ∷ xs) s zero (suc q) l h = all_at (Before x) xs s.1 q (le_of_suc-le-suc h)
sorted_at (x ∷ xs) s (suc p) zero l h = absurd (not-suc-le-zero l)
sorted_at (x ∷ xs) s (suc p) (suc q) l h = sorted_at xs s.2 p q (le_of_suc-le-suc l) (le_of_suc-le-suc h)

pub proper_at : (xs : List Record) → Sorted xs → (p : ℕ) → p < length xs → Proper (get_or xs p no_record)
unfolding Sorted
proper_at [] s p h = absurd (not-suc-le-zero h)
proper_at (x ∷ xs) s zero h = s.0
proper_at (x ∷ xs) s (suc p) h = proper_at xs s.2 p (le_of_suc-le-suc h)

-- What holds of each record, and of each two, makes an order.
pub sorted_of : (xs : List Record)
    → ((k : ℕ) → k < length xs → Proper (get_or xs k no_record))
    → ((p q : ℕ) → p < q → q < length xs → Before (get_or xs p no_record) (get_or xs q no_record))
    → Sorted xs
unfolding Sorted
sorted_of [] each two = tt
sorted_of (x ∷ xs) each two = (
  each 0 (suc-le-suc zero-le),
  all_of (Before x) xs (λ k l. two 0 (suc k) (suc-le-suc zero-le) (suc-le-suc l)),
  sorted_of xs (λ k l. each (suc k) (suc-le-suc l)) (λ p q l m. two (suc p) (suc q) (suc-le-suc l) (suc-le-suc m)),
)
