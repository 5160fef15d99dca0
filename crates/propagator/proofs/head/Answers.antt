-- `propagator::head` meets its contract. The loop's invariant: what is left begins at a place between two clauses. Assumes nothing.
use borrow.Author.Rules.{rules}
use Rattle.propagator.proofs.Fronts.{rest_next}
use Rattle.propagator.proofs.head.Goals as goal

pub clauses-preserved : goal.clauses-preserved
clauses-preserved c = rest_next _ c.requires _ c.clauses.invariant c.in-3221225474.len_at_least (search rules)
