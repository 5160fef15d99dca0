-- `printout::dimacs` meets its contract: the lists have the program's lengths, and the buffer is long enough for every text. Assumes nothing.
use native.Mathlib.Omega.{arith}
use Rattle.printout.proofs.Fits.{printed_whole, printed_clauses}
use Rattle.printout.specs.declared.Form.TheVariants.{Clauses}
use Rattle.printout.proofs.dimacs.Goals as goal

pub returns : goal.returns
returns c = printed_clauses (printed_whole Clauses _ _ _ _ _ _ _ _ _ _ (omega arith) (omega arith) (omega arith) (omega arith) c.print.ensures)
