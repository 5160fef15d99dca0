-- `printout_lines::first_edge` meets its contract: the first place of a record, or the number of edges. Assumes nothing.
use native.Mathlib.Omega.{arith}
use mathlib.Core.Path.{◌∙◌}
use Rattle.printout_lines.proofs.Drawn.{first_is, past_is}
use Rattle.printout_lines.proofs.first_edge.Goals as goal

pub returns-then-k-records : goal.returns-then-k-records
returns-then-k-records c = λ ns es l. c.first.ensures ∙ first_is l c.args.k.0 (omega arith)

pub returns-else-k-records : goal.returns-else-k-records
returns-else-k-records c = λ ns es l. past_is l c.args.k.0 (omega arith)
