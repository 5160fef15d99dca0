-- `linker::sum_ends` meets its contract. The loop's invariant: the sum, with the ends of the records from k on, is the whole. Assumes nothing.
use Prim.Native.Nat.{◌≤◌, ◌+◌, ◌*◌}
use mathlib.Core.Path.{◌≡◌}
use lib.ListN.{drop}
use Rattle.word.specs.Record.{labelled}
use Rattle.diagram.specs.Constraint.{last_end}
use Rattle.linker.specs.Sum.{end_sum}
use Rattle.linker.proofs.sum_ends.Given as goal

abbrev pub invariant-loop-k : goal.invariant-loop-k
invariant-loop-k l = (l.sum ≤ last_end * l.k) × (l.sum + end_sum l.ends (drop l.k (labelled l.table l.count)) ≡ end_sum l.ends (labelled l.table l.count))
