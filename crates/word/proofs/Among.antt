-- RECORDS by number and by membership. Each law by induction on the records. Assumes nothing.
use mathlib.Core.Path.{◌≡◌, refl, sym}
use mathlib.Core.Logic.{inl, inr}
use mathlib.Core.List.{List, [], ◌∷◌}
use Prim.Native.Nat.{ℕ, zero, suc, ◌<◌, zero-le, suc-le-suc}
use native.Mathlib.Nat.{not-suc-le-zero, le_of_suc-le-suc}
use lib.ListN.{length, get_or}
use Rattle.word.specs.Record.{Record, no_record, Among}

-- What stands at a place is among them.
pub among_at : (xs : List Record) (k : ℕ) → k < length xs → Among (get_or xs k no_record) xs
among_at [] k h = absurd (not-suc-le-zero h)
among_at (x ∷ xs) zero h = inl refl
among_at (x ∷ xs) (suc k) h = inr (among_at xs k (le_of_suc-le-suc h))

-- Record k of the list is x.
pub record Standing (x : Record) (xs : List Record) : Type 0 where
  pub k : ℕ
  pub within : k < length xs
  pub here : get_or xs k no_record ≡ x

-- What is among them stands at some place.
pub at_among : (x : Record) (xs : List Record) → Among x xs → Standing x xs
at_among x [] m = absurd m
at_among x (y ∷ ys) (inl e) = record { k = 0; within = suc-le-suc zero-le; here = sym e }
at_among x (y ∷ ys) (inr m) =
    let s = at_among x ys m in
    record { k = suc s.k; within = suc-le-suc s.within; here = s.here }
