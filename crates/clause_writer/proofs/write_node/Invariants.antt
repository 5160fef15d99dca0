-- `clause_writer::write_node` meets its contract. The invariant: behind the clause of child 0, those of the children before j are in, and those from j on are left.
-- Assumes nothing.
use Rattle.word.specs.Word.{boolean}
use Rattle.clause_buffer.proofs.Writing.{WordsLeft}
use Rattle.clause_writer.proofs.Turns.{children_left}
use Rattle.clause_writer.proofs.write_node.Given as goal

abbrev pub invariant-loop-j : goal.invariant-loop-j
invariant-loop-j l = WordsLeft (children_left l.orders (boolean l.n) l.earlier l.edges 1) l.initial.at l.initial.out (children_left l.orders (boolean l.n) l.earlier l.edges l.j) l.at l.out
