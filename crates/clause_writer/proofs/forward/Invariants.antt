-- `clause_writer::forward` meets its contract. The invariant: the sum is the number of order Booleans before this level. Assumes nothing.
use mathlib.Core.Path.{◌≡◌}
use Prim.Native.Nat.{◌+◌}
use Rattle.encoding.specs.Boolean.{orders_before}
use Rattle.clause_buffer.specs.Ended.{ended}
use Rattle.clause_writer.proofs.forward.Given as goal

abbrev pub invariant-loop-end : goal.invariant-loop-end
invariant-loop-end l = l.earlier ≡ orders_before (ended l.ends) (l.from + l.end-index)
