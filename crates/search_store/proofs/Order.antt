-- WHAT AN INSERTION does to membership and to the order. Each law by induction on the records. Assumes nothing.
use mathlib.Core.Path.{◌≡◌, refl, ap}
use mathlib.Core.Logic.{◌⊎◌, inl, inr, ⊎_elim}
use mathlib.Core.List.{List, [], ◌∷◌}
use Prim.Native.Nat.{ℕ, zero, suc, ◌≤◌, ◌<◌, zero-le, suc-le-suc}
use native.Mathlib.Nat.{not-suc-le-zero, le_of_suc-le-suc}
use lib.ListN.{length, get_or}
use Rattle.word.specs.Record.{Record, no_record, Among}
use Rattle.search_ordered.specs.Order.{Before, Proper, All, Sorted}
use Rattle.search_ordered.proofs.Order.{all_of}
use Rattle.search_store.specs.Insert.{insert_at}

pub insert_length : (p : ℕ) (x : Record) (xs : List Record) → length (insert_at p x xs) ≡ suc (length xs)
unfolding insert_at
insert_length zero x xs = refl
insert_length (suc p) x [] = refl
insert_length (suc p) x (y ∷ ys) = ap suc (insert_length p x ys)

-- The new record is among them, each old one still is, and there is no other.
pub insert_new : (p : ℕ) (y : Record) (xs : List Record) → Among y (insert_at p y xs)
unfolding insert_at
insert_new zero y xs = inl refl
insert_new (suc p) y [] = inl refl
insert_new (suc p) y (x ∷ xs) = inr (insert_new p y xs)

pub insert_old : (p : ℕ) (y : Record) (xs : List Record) (x : Record) → Among x xs → Among x (insert_at p y xs)
unfolding insert_at
insert_old zero y xs x m = inr m
insert_old (suc p) y [] x m = absurd m
insert_old (suc p) y (z ∷ zs) x (inl e) = inl e
insert_old (suc p) y (z ∷ zs) x (inr m) = inr (insert_old p y zs x m)

pub insert_cases : (p : ℕ) (y : Record) (xs : List Record) (x : Record) → Among x (insert_at p y xs) → (x ≡ y) ⊎ Among x xs
unfolding insert_at
insert_cases zero y xs x m = m
insert_cases (suc p) y [] x (inl e) = inl e
insert_cases (suc p) y [] x (inr m) = absurd m
insert_cases (suc p) y (z ∷ zs) x (inl e) = inr (inl e)
insert_cases (suc p) y (z ∷ zs) x (inr m) = ⊎_elim (λ e. inl e) (λ n. inr (inr n)) (insert_cases p y zs x m)

all_insert : (P : Record → Type 0) (p : ℕ) (y : Record) (xs : List Record) → P y → All P xs → All P (insert_at p y xs)
unfolding All insert_at
all_insert P zero y xs h a = (h, a)
all_insert P (suc p) y [] h a = (h, tt)
all_insert P (suc p) y (x ∷ xs) h a = (a.0, all_insert P p y xs h a.1)

-- Records stay in order where those before number p come before the new one, and it comes before the others.
pub sorted_insert : (p : ℕ) (y : Record) (xs : List Record) → Sorted xs → Proper y → p ≤ length xs
    → ((k : ℕ) → k < p → Before (get_or xs k no_record) y)
    → ((k : ℕ) → p ≤ k → k < length xs → Before y (get_or xs k no_record))
    → Sorted (insert_at p y xs)
unfolding Sorted insert_at
sorted_insert zero y xs s q h b a = (q, all_of (Before y) xs (λ k l. a k zero-le l), s)
sorted_insert (suc p) y [] s q h b a = absurd (not-suc-le-zero h)
sorted_insert (suc p) y (x ∷ xs) s q h b a = (
  s.0,
  all_insert (Before x) p y xs (b 0 (suc-le-suc zero-le)) s.1,
  sorted_insert p y xs s.2 q (le_of_suc-le-suc h) (λ k l. b (suc k) (suc-le-suc l)) (λ k l m. a (suc k) (suc-le-suc l) (suc-le-suc m)),
)
