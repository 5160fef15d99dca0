-- `linker::clear_entering` meets its contract. The loop's invariant: nothing is counted at the first n nodes. Assumes nothing.
use mathlib.Core.Path.{◌≡◌}
use Rattle.linker.specs.Counting.{unentered}
use Rattle.linker.proofs.clear_entering.Given as goal

abbrev pub invariant-loop-n : goal.invariant-loop-n
invariant-loop-n l = l.table ≡ unentered l.initial.table l.n
