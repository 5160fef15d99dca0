-- `printout_marking::mark_bytes` meets its contract, by the two tests on the number of bytes; where both let the bytes pass, their words find room.
-- Assumes nothing.
use native.Mathlib.Omega.{arith}
use Rattle.text.proofs.Cuts.{printed_inside, printed_count}
use Rattle.printout_marking.proofs.Input.{answer_long, answer_bad, answer_words, answer_clauses}
use Rattle.printout_marking.proofs.mark_bytes.Goals as goal

pub returns-then-input-gt-BYTES : goal.returns-then-input-gt-BYTES
returns-then-input-gt-BYTES c = answer_clauses (answer_long _ _ (omega (arith, c.if-input-gt-BYTES.true)))

pub returns-then-input-ne0 : goal.returns-then-input-ne0
returns-then-input-ne0 c = answer_clauses (answer_bad _ _ (omega (arith, c.if-input-gt-BYTES.false)) c.if-input-ne0.true)

pub slice_bounds-mark_words-end : goal.slice_bounds-mark_words-end
slice_bounds-mark_words-end c = printed_inside c.words_of-n.ensures

pub slice_bounds-mark_words-end-2 : goal.slice_bounds-mark_words-end-2
slice_bounds-mark_words-end-2 c = printed_count c.words_of-n.ensures

pub returns : goal.returns
returns c = answer_clauses (answer_words _ _ _ _ _ (omega (arith, c.if-input-gt-BYTES.false)) c.if-input-ne0.false c.requires c.words_of-n.ensures c.mark_words.ensures)
