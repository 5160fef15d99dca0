-- `comparer::pass_fours` meets its contract. The loop's invariant is what is promised: every word before word k has its four bytes. The measure is the number
-- of words left. Assumes nothing.
use Rattle.std.proofs.Common.{arith}
use Rattle.comparer.proofs.Turns.{four_more}
use Rattle.comparer.proofs.pass_fours.Goals as goal

pub loop-k-preserved : goal.loop-k-preserved
loop-k-preserved c = (
  omega arith,
  four_more
      _
      _
      c.loop-k.k
      c.has_four-first.ensures
      c.has_four-second.ensures
      c.has_four-third.ensures
      c.has_four-fourth.ensures
      c.if-not-first-second.false
      c.loop-k.invariant.1,
)
