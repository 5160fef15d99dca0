-- ENTERING EDGES COUNTED in the table, an edge at a time. Assumes nothing.
use Rattle.std.specs.Prelude.{List, [], ◌∷◌, ℕ, zero, suc, ◌+◌, ◌*◌, ◌≤◌, ◌<◌, length, get_or, set}
use Rattle.word.specs.Edge.{Edge, F, T, to}
use Rattle.word.specs.Record.{record_words, entering_word, most_nodes}
use Rattle.diagram.specs.Constraint.{last_end}

-- Where the number of edges that enter node k stands.
abbrev pub entering_at : ℕ → ℕ
entering_at k = k * record_words + entering_word

-- The table with an edge counted: one more enters the node that it leads to, if it leads to one.
abbrev pub entered_by : List ℕ → Edge → List ℕ
entered_by t F = t
entered_by t T = t
entered_by t (to k) = set t (entering_at k) (get_or t (entering_at k) 0 + 1)

-- The table with the edges of a list counted.
unfoldable pub entered : List ℕ → List Edge → List ℕ
entered t [] = t
entered t (e ∷ es) = entered (entered_by t e) es

-- The table with none counted at the first n nodes.
unfoldable pub unentered : List ℕ → ℕ → List ℕ
unentered t zero = t
unentered t (suc n) = set (unentered t n) (entering_at n) 0

-- An edge can be counted: its node has a record, whose number can grow.
abbrev pub CanEnter : List ℕ → Edge → Type 0
CanEnter t F = Unit {0}
CanEnter t T = Unit {0}
CanEnter t (to k) = (entering_at k < length t) × (get_or t (entering_at k) 0 + 1 < 4294967296)

-- No more edges are counted at any of the first n nodes than there are edges at most.
abbrev pub CountsFit : List ℕ → ℕ → Type 0
CountsFit t n = (k : ℕ) → k < n → get_or t (entering_at k) 0 ≤ (last_end + 1) * most_nodes
