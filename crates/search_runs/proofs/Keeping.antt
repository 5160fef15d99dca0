-- What two calls keep, one after the other. Assumes nothing.
use mathlib.Core.Path.{◌∙◌}
use Rattle.search_runs.specs.declared.TwoRuns.{TwoRuns}
use Rattle.search_runs.specs.RunsKept.{RunsKept}

pub kept_on : (s s' s'' : TwoRuns) → RunsKept s s' → RunsKept s' s'' → RunsKept s s''
kept_on s s' s'' a b =
    record {
      table = b.table ∙ a.table;
      work = b.work ∙ a.work;
      table_long = b.table_long ∙ a.table_long;
      work_long = b.work_long ∙ a.work_long;
    }
