-- `propagator::look` meets its contract. The loop's invariant: the status from here on, with the open literal so far, is the clause's (`Looking`); an end word
-- is still to come, so no length is tested. Assumes nothing.
use Prim.Native.Nat.{◌-◌}
use lib.ListN.{length}
use Rattle.propagator.proofs.Looks.{Looking}
use Rattle.propagator.proofs.look.Given as goal

abbrev pub invariant-literals : goal.invariant-literals
invariant-literals l = Looking l.bytes l.words l.from l.found l.at

abbrev pub decreases-literals : goal.decreases-literals
decreases-literals l = length l.words - l.at
