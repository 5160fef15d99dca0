-- WHAT EVERY CALL KEEPS of the table in two runs: the lent memory, and how long it is. Assumes nothing.
use Rattle.std.specs.Prelude.{◌≡◌, length}
use Rattle.search_runs.specs.declared.TwoRuns.{TwoRuns}

-- The table and the words for merging are those that were lent, as long as they were.
pub record RunsKept (s s' : TwoRuns) : Type 0 where
  pub table : s'.table.ghost_name ≡ s.table.ghost_name
  pub work : s'.work.ghost_name ≡ s.work.ghost_name
  pub table_long : length s'.table.now ≡ length s.table.now
  pub work_long : length s'.work.now ≡ length s.work.now
