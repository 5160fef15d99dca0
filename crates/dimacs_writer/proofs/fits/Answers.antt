-- `dimacs_writer::fits` meets its contract: each word takes its bytes off the room that is left. Assumes nothing.
use native.Mathlib.Omega.{arith}
use mathlib.Core.Path.{ap}
use lib.ListN.{length}
use Rattle.text.proofs.Decimals.{digits_few}
use Rattle.dimacs_writer.proofs.Turns.{body_none, word_length, under_over, under_within}
use Rattle.dimacs_writer.proofs.fits.Goals as goal

pub overflow_add-first-2 : goal.overflow_add-first-2
overflow_add-first-2 c =
    let args = c.args in
    omega (arith, c.digits.ensures, c.digits-2.ensures, digits_few 19 args.h.most (omega arith), digits_few 19 args.h.clauses (omega arith))

pub overflow_add-first : goal.overflow_add-first
overflow_add-first c = omega (arith, overflow_add-first-2 c)

pub returns-then-rest-n : goal.returns-then-rest-n
returns-then-rest-n c =
    let args = c.args in
    let one = word_length args.words.now c.loop-w.w-index (omega arith) in
    under_over args.h args.words.now args.room (omega (arith, c.digits.ensures, c.digits-2.ensures, c.width-n.ensures, one))

pub loop-w-preserved : goal.loop-w-preserved
loop-w-preserved c =
    let one = word_length c.args.words.now c.loop-w.w-index (omega arith) in
    omega (arith, c.width-n.ensures, one)

pub returns : goal.returns
returns c =
    let args = c.args in
    let none = ap length (body_none args.words.now c.loop-w.w-index (omega arith)) in
    under_within args.h args.words.now args.room (omega (arith, c.digits.ensures, c.digits-2.ensures, none))
