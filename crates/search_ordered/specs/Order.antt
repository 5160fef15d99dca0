-- RECORDS IN ORDER: by level, then by label, no two labels of a level overlapping; what a search among them looks at. Assumes nothing.
use Rattle.std.specs.Prelude.{ℕ, ◌-◌, ◌≤◌, ◌<◌, Bool, ◌&&◌, ◌||◌, List, [], ◌∷◌, eqb, leb, ltb, length, get_or}
use Rattle.std.specs.Coded.{Unit-prop, le_prop}
use Rattle.word.specs.Record.{Record, no_record}
use Rattle.finder.specs.Find.{holds, key}

-- x's label ends before y's begins, at one level, or x's level is the smaller.
abbrev pub Before : Record → Record → Type 0
Before x y = key x.level x.upper < key y.level y.lower

-- The lower end is not above the upper, which is a word.
abbrev pub Proper : Record → Type 0
Proper x = (x.lower ≤ x.upper) × (x.upper < 4294967296)

unfoldable pub All : (Record → Type 0) → List Record → Type 0
All P [] = Unit
All P (x ∷ xs) = P x × All P xs

-- In order: each record comes before all that follow.
unfoldable pub Sorted : List Record → Type 0
Sorted [] = Unit
Sorted (x ∷ xs) = Proper x × All (Before x) xs × Sorted xs

-- The key of record k's upper end.
abbrev pub upper_key : List Record → ℕ → ℕ
upper_key xs k = key (get_or xs k no_record).level (get_or xs k no_record).upper

-- Levels are low below this number: then keys differ by less than half of what 64 bits hold.
abbrev pub low_levels : ℕ
low_levels = 2147483648

abbrev pub Low : List Record → Type 0
Low xs = (k : ℕ) → k < length xs → (get_or xs k no_record).level < low_levels

-- Record p is there, of the level, and its label holds r.
abbrev pub hits : List Record → ℕ → ℕ → ℕ → Bool
hits xs level r p = ltb p (length xs) && holds (get_or xs p no_record) level r

-- There are n records, and the last of them, where n is not 0, lies wholly before x at the level.
abbrev pub last_below : List Record → ℕ → ℕ → ℕ → Bool
last_below xs level x n =
    eqb n 0 || (leb n (length xs) && ltb (upper_key xs (n - 1)) (key level x))

-- Any two proofs that records are in order are equal, as a ghost field asks.
All_before-prop : (x : Record) (xs : List Record) → IsProp (All (Before x) xs)
unfolding All
All_before-prop x [] p q = Unit-prop p q
All_before-prop x (y ∷ ys) p q = λ i. (le_prop p.0 q.0 i, All_before-prop x ys p.1 q.1 i)

pub Sorted-prop : (xs : List Record) → IsProp (Sorted xs)
unfolding Sorted
Sorted-prop [] p q = Unit-prop p q
Sorted-prop (x ∷ xs) p q = λ i. ((le_prop p.0.0 q.0.0 i, le_prop p.0.1 q.0.1 i), All_before-prop x xs p.1 q.1 i, Sorted-prop xs p.2 q.2 i)
