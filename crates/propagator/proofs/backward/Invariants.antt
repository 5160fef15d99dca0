-- `propagator::backward` meets its contract. The loop's invariant: the clauses behind the place are passed (`Backwards`). Assumes nothing.
use Prim.Native.Nat.{◌≤◌}
use Rattle.propagator.proofs.Backwards.{Backwards}
use Rattle.propagator.proofs.backward.Given as goal

abbrev pub invariant-clauses : goal.invariant-clauses
invariant-clauses l = (l.at ≤ l.end) × Backwards l.words l.initial.bytes l.bytes l.end l.last l.at

abbrev pub decreases-clauses : goal.decreases-clauses
decreases-clauses l = l.at
