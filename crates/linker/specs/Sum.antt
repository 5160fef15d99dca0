-- THE SUM OF DOMAIN ENDS over records, from which the encoder computes document 01's edge count and clause word count. Assumes nothing.
use Rattle.std.specs.Prelude.{ℕ, ◌+◌, ◌≤◌, ◌<◌, List, [], ◌∷◌, length, get_or}
use Rattle.word.specs.Record.{Record, most_nodes, no_record, labelled, RecordsFit}
use Rattle.diagram.specs.Flat.{end_at}
use Rattle.diagram.specs.Constraint.{last_end}

-- THE SUM.
unfoldable pub end_sum : List ℕ → List Record → ℕ
end_sum ds [] = 0
end_sum ds (x ∷ xs) = end_at ds x.level + end_sum ds xs

-- Each record is of one of n levels.
abbrev pub Levelled : ℕ → List Record → Type 0
Levelled n xs = (k : ℕ) → k < length xs → (1 ≤ (get_or xs k no_record).level) × ((get_or xs k no_record).level ≤ n)

-- Each domain end is within document 01's limit.
abbrev pub EndsFit : List ℕ → Type 0
EndsFit ds = (i : ℕ) → i < length ds → get_or ds i 0 ≤ last_end

-- What the sum over the first `count` records needs: they are within the table, and each is of a level with a domain end.
pub record Countable (ds t : List ℕ) (count : ℕ) : Type 0 where
  pub few : count ≤ most_nodes
  pub room : RecordsFit count t
  pub ends : EndsFit ds
  pub levels : Levelled (length ds) (labelled t count)
