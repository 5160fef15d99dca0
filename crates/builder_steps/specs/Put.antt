-- PUTTING A NODE'S RECORD IN, over the words of the lent table. Assumes nothing.
use Rattle.std.specs.Prelude.{◌≡◌, List, ℕ, ◌+◌, ◌/◌, ◌≤◌, length, Option, Some, None}
use Rattle.word.specs.Record.{labelled, record_words, RecordsFit}
use Rattle.search_runs.specs.declared.TwoRuns.{TwoRuns}
use Rattle.search_runs.specs.Runs.{second_run, Apart, Runs, Settled, PutIn}
use Rattle.builder_steps.specs.declared.Ends.{Ends}

-- The table has `count` records in two runs, the first of m records and the second within w words, no two labels of a level overlapping.
pub record Two (t : List ℕ) (m count w : ℕ) : Type 0 where
  pub runs : Runs t m count w
  pub apart : Apart (labelled t m) (second_run t m count)

-- A record was put into the second run, for which both were merged first if need be; or there was no room.
pub record Put (t : List ℕ) (m count w level r : ℕ) (e : Ends) (t' : List ℕ) (m' n : ℕ) (e' : Ends) : Type 0 where
  pub between : List ℕ
  pub settled : Settled t m count w between m'
  pub put : PutIn between m' count level r e.lower e.upper t'
  pub one : n ≡ count + 1
  pub same : e' ≡ e
  pub room : RecordsFit n t

abbrev pub PutOk : TwoRuns → ℕ → ℕ → Ends → TwoRuns → Option Ends → Type 0
PutOk s level r e s' (Some e') = Put s.table.now s.main s.count (length s.work.now) level r e s'.table.now s'.main s'.count e'
PutOk s level r e s' None = (length s.table.now / record_words ≤ s.count) × (s'.table.now ≡ s.table.now) × (s'.main ≡ s.main) × (s'.count ≡ s.count)
