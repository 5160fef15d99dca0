-- `dimacs_writer::survey` meets its contract. The invariant: the words before this one are counted. Assumes nothing.
use Rattle.dimacs_writer.proofs.Turns.{Surveyed}
use Rattle.dimacs_writer.proofs.survey.Given as goal

abbrev pub invariant-loop-w : goal.invariant-loop-w
invariant-loop-w l = Surveyed l.words l.most l.clauses l.w-index
