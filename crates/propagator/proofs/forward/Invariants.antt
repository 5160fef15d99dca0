-- `propagator::forward` meets its contract. The loop's invariant: the clauses before the place are passed (`Forwards`). Assumes nothing.
use Prim.Native.Nat.{◌-◌, ◌≤◌}
use lib.ListN.{length}
use Rattle.propagator.proofs.Forwards.{Forwards}
use Rattle.propagator.proofs.forward.Given as goal

abbrev pub invariant-clauses : goal.invariant-clauses
invariant-clauses l = (l.from ≤ l.at) × Forwards l.words l.initial.bytes l.bytes l.from l.last l.at

abbrev pub decreases-clauses : goal.decreases-clauses
decreases-clauses l = length l.words - l.at
