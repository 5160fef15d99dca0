-- `printout::print` meets its contract, by the two tests on the number of bytes; where both let the bytes pass, their words find room. Assumes nothing.
use native.Mathlib.Omega.{arith}
use Rattle.text.proofs.Cuts.{printed_inside, printed_count}
use Rattle.printout.proofs.Input.{shows_long, shows_bad, shows_words}
use Rattle.printout.proofs.print.Goals as goal

pub returns-then-input-gt-BYTES : goal.returns-then-input-gt-BYTES
returns-then-input-gt-BYTES c = shows_long _ _ _ _ _ _ _ _ c.if-input-gt-BYTES.true c.put_all.ensures

pub returns-then-input-ne0 : goal.returns-then-input-ne0
returns-then-input-ne0 c = shows_bad _ _ _ _ _ _ _ _ (omega arith) c.if-input-ne0.true c.put_all-then-input-ne0.ensures

pub slice_bounds-words-end : goal.slice_bounds-words-end
slice_bounds-words-end c = printed_inside c.words_of-n.ensures

pub slice_bounds-put_words-end : goal.slice_bounds-put_words-end
slice_bounds-put_words-end c = printed_count c.words_of-n.ensures

pub returns : goal.returns
returns c = shows_words _ _ _ _ _ _ _ _ _ _ _ _ _ _ (omega arith) (omega arith) (omega arith) c.words_of-n.ensures (c.put_words.ensures.wrote, c.put_words.ensures.leaves)
