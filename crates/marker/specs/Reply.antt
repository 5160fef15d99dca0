-- THE MARKER'S REPLY to constraint words, a table and an edge list: right, or a refusal. Assumes nothing.
use Rattle.std.specs.Prelude.{List, ℕ, Ok, Err}
use Rattle.word.specs.Record.{records}
use Rattle.refusal.specs.Table.{number_of, place_of, and_then, Checked}
use Rattle.diagram.specs.Constraint.{levels}
use Rattle.limits.specs.Limits.{main_limits}
use Rattle.constraint_words.specs.Reading.{checked, stated}
use Rattle.marking.specs.Judged.{judged}

-- THE VALUES OF A REPLY: right is 1 with number and place 0; a refusal is 0, its number and its place.
pub record MarkedValues : Type 0 where
  pub right : ℕ
  pub number : ℕ
  pub place : ℕ

abbrev pub marked_values : Checked → MarkedValues
marked_values (Ok tt) = record { right = 1; number = 0; place = 0 }
marked_values (Err x) = record { right = 0; number = number_of x; place = place_of x }

-- THE REPLY: the refusals of the constraint's words under the main limits come first, then the first bad record; words past the last full record are no record.
unfoldable pub marked_reply : List ℕ → List ℕ → List ℕ → Checked
marked_reply ws t es = and_then (checked main_limits ws) (judged (levels (stated ws).terms) (stated ws).bound (records t) es)
