-- `printout::show` meets its contract: the lists have the program's lengths, and the buffer is long enough for every text. Assumes nothing.
use native.Mathlib.Omega.{arith}
use Rattle.printout.proofs.Fits.{printed_whole, printed_clauses}
use Rattle.printout.specs.declared.Form.TheVariants.{Diagram}
use Rattle.printout.proofs.show.Goals as goal

pub returns : goal.returns
returns c = printed_clauses (printed_whole Diagram _ _ _ _ _ _ _ _ _ _ (omega arith) (omega arith) (omega arith) (omega arith) c.print.ensures)
