-- `propagator::head` meets its contract. The loop's invariant: what is left begins at a place between two clauses. Assumes nothing.
use lib.ListN.{length}
use Rattle.propagator.proofs.Fronts.{Rest}
use Rattle.propagator.proofs.head.Given as goal

abbrev pub invariant-clauses : goal.invariant-clauses
invariant-clauses l = Rest l.words l.rest

abbrev pub decreases-clauses : goal.decreases-clauses
decreases-clauses l = length l.rest
