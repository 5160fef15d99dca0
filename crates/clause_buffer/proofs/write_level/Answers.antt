-- `clause_buffer::write_level` meets its contract: each value's clause is put behind those that are in. Assumes nothing.
use native.Mathlib.Omega.{arith}
use Rattle.clause_buffer.proofs.Writing.{words_left_less}
use Rattle.clause_buffer.proofs.Turns.{order_turn}
use Rattle.clause_buffer.proofs.write_level.Goals as goal

pub loop-j-preserved : goal.loop-j-preserved
loop-j-preserved c =
    let args = c.args in
    let e = order_turn args.earlier args.end c.loop-j.j (omega arith) c.literal.ensures c.literal-in-loop-j.ensures in
    words_left_less e c.loop-j.invariant c.put_clause-at.ensures
