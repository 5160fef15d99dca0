-- The turns of the loops: what is left to write from one level or value on is its clauses, and what is left from the next on.
-- Assumes nothing.
use mathlib.Core.Path.{◌≡◌}
use mathlib.Core.List.{List, [], ◌∷◌, ◌++◌}
use mathlib.Core.Bool.{true, false}
use Prim.Native.Nat.{ℕ, suc, ◌+◌, ◌-◌, ◌<◌}
use native.Mathlib.Numerals.{add-one}
use native.Mathlib.Omega.{arith}
use lib.ListN.{length, get_or, drop}
use lib.Seq.{drop-cons}
use Rattle.word.specs.Word.{literal_word, end_word}
use Rattle.word.specs.Edge.{Edge, T, F, edge_boolean}
use Rattle.word.proofs.Kept.{Parts}
use Rattle.clause.specs.Meaning.{words_of}
use Rattle.clause.proofs.Written.{words_append}
use Rattle.encoding.specs.Boolean.{orders}
use Rattle.encoding.specs.Pattern.{order_of, orders_of, units_of}
use Rattle.clause_buffer.specs.Ended.{ended}

-- ---- The order clauses

-- of a level with the domain end d, from a value on; b order Booleans come before the level's
abbrev pub order_left : ℕ → ℕ → ℕ → List ℕ
order_left b d j = words_of (order_of (b + j) (d - j))

pub order_turn : (b d j : ℕ) {a c : ℕ} → j < d → a ≡ literal_word false (b + j) → c ≡ literal_word true (b + j + 1)
    → Parts (order_left b d j) (a ∷ c ∷ end_word 2 ∷ []) (order_left b d (j + 1))
order_turn b d j {a} {c} h p q =
    let e : d - j ≡ suc (d - (j + 1)) = omega arith in
    let f : b + (j + 1) ≡ suc (b + j) = omega arith in
    record { joined = rw (p, q, f, add-one (b + j), e) }

-- of the levels from one on; b order Booleans come before
abbrev pub levels_left : List ℕ → ℕ → ℕ → List ℕ
levels_left ds b i = words_of (orders_of b (ended (drop i ds)))

pub levels_turn : (ds : List ℕ) (b i : ℕ) → i < length ds
    → Parts (levels_left ds b i) (words_of (order_of (suc b) (get_or ds i 0 - 1))) (levels_left ds (b + get_or ds i 0) (i + 1))
levels_turn ds b i h =
    record {
      joined = rw (drop-cons ds i 0, add-one) (words_append (order_of (suc b) (get_or ds i 0 - 1)) (orders_of (b + get_or ds i 0) (ended (drop (suc i) ds))));
    }

pub orders_turn : (ds : List ℕ) (i : ℕ) → i < length ds → orders (ended (drop i ds)) ≡ get_or ds i 0 + orders (ended (drop (i + 1) ds))
orders_turn ds i h = rw (drop-cons ds i 0, add-one)

-- ---- The unit clauses

pub units_are : (D : ℕ) (top : Edge) {t f r : ℕ} → t ≡ literal_word true (edge_boolean D T) → f ≡ literal_word false (edge_boolean D F)
    → r ≡ literal_word true (edge_boolean D top)
    → (t ∷ end_word 1 ∷ []) ++ ((f ∷ end_word 1 ∷ []) ++ (r ∷ end_word 1 ∷ [])) ≡ words_of (units_of D top)
units_are D top p q s = rw (p, q, s)
