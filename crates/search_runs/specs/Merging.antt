-- A STEP OF MERGING: whether the next record to be stored is one of the first run. Assumes nothing.
use Rattle.std.specs.Prelude.{List, Bool, ◌&&◌, ℕ, ◌-◌, ltb, get_or}
use Rattle.word.specs.Record.{Record, no_record}
use Rattle.search_runs.specs.Runs.{lower_key}

-- There is a last one of the first i records, and its key is above k.
abbrev pub last_above : List Record → ℕ → ℕ → Bool
last_above xs i k = ltb 0 i && ltb k (lower_key (get_or xs (i - 1) no_record))
