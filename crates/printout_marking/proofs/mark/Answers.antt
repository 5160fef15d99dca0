-- `printout_marking::mark` meets its contract: the buffer is long enough for every text. Assumes nothing.
use native.Mathlib.Omega.{arith}
use Rattle.printout_marking.proofs.Fits.{marks_whole, marks_clauses}
use Rattle.printout_marking.proofs.mark.Goals as goal

pub returns : goal.returns
returns c = marks_clauses (marks_whole _ _ _ _ _ _ _ (omega arith) (c.mark_bytes-answer.ensures.value, c.mark_bytes-answer.ensures.words_after) c.put_answer.ensures)
