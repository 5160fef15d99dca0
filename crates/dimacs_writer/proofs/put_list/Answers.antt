-- `dimacs_writer::put_list` meets its contract: each word is put behind those that are in. Assumes nothing.
use native.Mathlib.Omega.{arith}
use Rattle.text.proofs.Cuts.{left_less, left_none, wrote_then}
use Rattle.dimacs_writer.proofs.Turns.{body_turn, body_none}
use Rattle.dimacs_writer.proofs.put_list.Goals as goal

pub loop-w-preserved : goal.loop-w-preserved
loop-w-preserved c =
    let one = body_turn c.args.words.now c.loop-w.w-index (omega arith) in
    left_less one c.loop-w.invariant c.put_word-at.ensures

pub returns : goal.returns
returns c =
    let none = body_none c.args.words.now c.loop-w.w-index (omega arith) in
    wrote_then c.put_header-at.ensures (left_none none c.loop-w.invariant)
