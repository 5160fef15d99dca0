-- `propagator::next` meets its contract: by its end word, or else by a look and what is past it. Assumes nothing.
use native.Mathlib.Omega.{arith}
use Prim.Native.Nat.{◌+◌}
use lib.ListN.{length}
use Rattle.propagator.proofs.Looks.{met_asks}
use Rattle.propagator.proofs.Places.{between_ended}
use Rattle.propagator.proofs.EndWords.{ended_words, ended_past}
use Rattle.propagator.proofs.next.Goals as goal

pub look_three-requires : goal.look_three-requires
look_three-requires c =
    ended_words (length c.args.bytes.now) c.args.words.now c.requires.0 c.args.from c.requires.1 3 (omega arith)
    (omega (arith, c.if-words-from.true), omega (arith, c.if-words-from.true))

pub returns-then-words-from : goal.returns-then-words-from
returns-then-words-from c =
    let bs = c.args.bytes.now in
    let ws = c.args.words.now in
    let from = c.args.from in (
      met_asks bs ws from (from + 3) c.look_three.result c.look_three.ensures (omega arith) (omega (arith, c.if-words-from.true)),
      ended_past (length bs) ws c.requires.0 from c.requires.1 3 (omega arith) (omega (arith, c.if-words-from.true), omega (arith, c.if-words-from.true))
          (from + 4) (omega arith),
    )

pub look_two-requires : goal.look_two-requires
look_two-requires c =
    ended_words (length c.args.bytes.now) c.args.words.now c.requires.0 c.args.from c.requires.1 2 (omega arith)
    (omega (arith, c.if-words-from-2.true), omega (arith, c.if-words-from-2.true))

pub returns-then-words-from-2 : goal.returns-then-words-from-2
returns-then-words-from-2 c =
    let bs = c.args.bytes.now in
    let ws = c.args.words.now in
    let from = c.args.from in (
      met_asks bs ws from (from + 2) c.look_two.result c.look_two.ensures (omega arith) (omega (arith, c.if-words-from-2.true)),
      ended_past (length bs) ws c.requires.0 from c.requires.1 2 (omega arith) (omega (arith, c.if-words-from-2.true), omega (arith, c.if-words-from-2.true))
          (from + 3) (omega arith),
    )

pub look-l-requires : goal.look-l-requires
look-l-requires c = (c.requires.0, between_ended c.args.words.now (length c.args.bytes.now) c.requires.0 c.args.from c.requires.1 c.requires.2)
