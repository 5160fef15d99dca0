-- `clause_buffer::write_levels` meets its contract: each level's clauses are put behind those that are in. Assumes nothing.
use native.Mathlib.Omega.{arith}
use Rattle.clause_buffer.proofs.Writing.{words_left_room, words_left_less}
use Rattle.clause_buffer.proofs.Turns.{levels_turn, orders_turn}
use Rattle.clause_buffer.proofs.write_levels.Goals as goal

pub write_level-at-requires-clause-room : goal.write_level-at-requires-clause-room
write_level-at-requires-clause-room c = words_left_room (levels_turn c.args.ends.now c.loop-end.earlier c.loop-end.end-index (omega arith)) c.loop-end.invariant.1

pub loop-end-preserved : goal.loop-end-preserved
loop-end-preserved c =
    let ends = c.args.ends.now in
    let i = c.loop-end.end-index in
    let e = levels_turn ends c.loop-end.earlier i (omega arith) in
    (omega (arith, orders_turn ends i (omega arith)), words_left_less e c.loop-end.invariant.1 c.write_level-at.ensures)
