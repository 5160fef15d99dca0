-- `comparer::pass_fours` meets its contract. The loop's invariant is what is promised: every word before word k has its four bytes. The measure is the number
-- of words left. Assumes nothing.
use Prim.Native.Nat.{◌-◌, ◌≤◌}
use Rattle.comparer.specs.Four.{AllHave}
use Rattle.comparer.proofs.pass_fours.Given as goal

abbrev pub invariant-loop-k : goal.invariant-loop-k
invariant-loop-k l = (l.k ≤ l.full) × AllHave l.bytes l.words l.k

abbrev pub decreases-loop-k : goal.decreases-loop-k
decreases-loop-k l = l.full - l.k
