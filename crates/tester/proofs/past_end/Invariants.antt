-- `tester::past_end` meets its contract. The loop's invariant: no end word stands before `at`, so the place is what the definition gives from there on. The measure is
-- the number of words left. Assumes nothing.
use Rattle.std.proofs.Common.{◌≡◌, ◌≤◌, ◌-◌, length, drop}
use Rattle.tester.specs.Past.{past_end}
use Rattle.tester.proofs.past_end.Given as goal

abbrev pub invariant-skip : goal.invariant-skip
invariant-skip l = (l.from ≤ l.at) × (l.at ≤ length l.words) × (past_end l.from (drop l.from l.words) ≡ past_end l.at (drop l.at l.words))

abbrev pub decreases-skip : goal.decreases-skip
decreases-skip l = length l.words - l.at
