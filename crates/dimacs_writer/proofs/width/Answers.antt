-- `dimacs_writer::width` meets its contract: the digits, the space behind them, and the sign before them. Assumes nothing.
use native.Mathlib.Omega.{arith}
use Rattle.dimacs_writer.proofs.Turns.{boolean_few}
use Rattle.dimacs_writer.proofs.width.Goals as goal

pub overflow_add-n : goal.overflow_add-n
overflow_add-n c = omega (arith, boolean_few c.args.w c.boolean_of.ensures c.digits-n.ensures)

pub overflow_add-result : goal.overflow_add-result
overflow_add-result c = omega (arith, boolean_few c.args.w c.boolean_of.ensures c.digits-n.ensures)
