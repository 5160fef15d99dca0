-- `clause_writer::write_nodes` meets its contract: each node's clauses are put behind those that are in. Assumes nothing.
use native.Mathlib.Omega.{arith}
use Rattle.clause_buffer.proofs.Writing.{words_left_room, words_left_less}
use Rattle.clause_writer.proofs.Turns.{node_asked, nodes_turn}
use Rattle.clause_writer.proofs.write_nodes.Goals as goal

pub write_node-at-requires-clause-values : goal.write_node-at-requires-clause-values
write_node-at-requires-clause-values c = (node_asked c.requires.held c.loop-k.k (omega arith) c.before_level-earlier.ensures).values

pub write_node-at-requires-clause-known : goal.write_node-at-requires-clause-known
write_node-at-requires-clause-known c = (node_asked c.requires.held c.loop-k.k (omega arith) c.before_level-earlier.ensures).known

pub write_node-at-requires-clause-room : goal.write_node-at-requires-clause-room
write_node-at-requires-clause-room c = words_left_room (nodes_turn c.requires.held c.loop-k.k (omega arith) c.before_level-earlier.ensures) c.loop-k.invariant.1

pub loop-k-preserved : goal.loop-k-preserved
loop-k-preserved c =
    let held = c.requires.held in
    let before = c.before_level-earlier.ensures in
    let e = nodes_turn held c.loop-k.k (omega arith) before in
    (before, words_left_less e c.loop-k.invariant.1 c.write_node-at.ensures)
