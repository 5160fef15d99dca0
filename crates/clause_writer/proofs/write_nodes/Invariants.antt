-- `clause_writer::write_nodes` meets its contract. The invariant: `earlier` is the number of order Booleans before the level that was last looked at; the clauses of
-- the nodes before k are in, and those from k on are left. Assumes nothing.
use mathlib.Core.Path.{◌≡◌}
use Rattle.encoding.specs.Boolean.{orders_before}
use Rattle.clause_buffer.specs.Ended.{ended}
use Rattle.clause_buffer.proofs.Writing.{WordsLeft}
use Rattle.clause_writer.proofs.Turns.{nodes_left}
use Rattle.clause_writer.proofs.write_nodes.Given as goal

abbrev pub invariant-loop-k : goal.invariant-loop-k
invariant-loop-k l = (l.earlier ≡ orders_before (ended l.ends) l.level) × WordsLeft (nodes_left l.ends l.orders l.table l.count l.edges 0) l.start l.initial.out (nodes_left l.ends l.orders l.table l.count l.edges l.k) l.at l.out
