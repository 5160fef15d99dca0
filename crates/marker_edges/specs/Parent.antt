-- WHAT A RECORD'S EDGES ARE HELD AGAINST, and the numbers that an edge may have. Only the contracts of our own functions speak of it. Assumes nothing.
use Rattle.std.specs.Prelude.{Bool, List, ℕ, suc, ◌/◌, ◌≤◌, min, length}
use Rattle.word.specs.Word.{payloads}
use Rattle.word.specs.Edge.{Edge}
use Rattle.word.specs.Record.{record_words, records}
use Rattle.diagram.specs.Label.{Interval, interval, from, no_end, Label}
use Rattle.diagram.specs.Constraint.{last_end, last_coefficient, greatest_sum}
use Rattle.marking.specs.Judged.{end_right, edge_right}
use Rattle.marker_edges.specs.declared.Parent.{Parent}

-- The label of the record, and T's label below it.
abbrev pub parent_label : Parent → Label
parent_label p = record { lower = p.lower; upper = p.upper }

abbrev pub parent_top : Parent → Interval
parent_top p = interval (from p.rest) no_end

-- The numbers of records that a word of kind 0 can hold.
abbrev pub numbers_in : List ℕ → ℕ
numbers_in t = min (length t / record_words) payloads

-- The test of an edge by the offset of its value: by its end, and by its word.
abbrev pub end_test : List ℕ → Parent → ℕ → Edge → Bool
end_test t p = end_right (parent_top p) (records t) p.below (parent_label p)

abbrev pub edge_test : List ℕ → Parent → ℕ → ℕ → Bool
edge_test t p = edge_right (parent_top p) (records t) p.below (parent_label p)

-- The greatest offset of a row and R below it fit a word together.
abbrev pub RowFits : Parent → ℕ → ℕ → Type 0
RowFits p coef n = (n ≤ suc last_end) × (coef ≤ last_coefficient) × (p.rest ≤ greatest_sum)
