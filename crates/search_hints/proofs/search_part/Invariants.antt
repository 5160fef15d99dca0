-- `search_hints::search_part` keeps within the run. The loop's invariant: from p on there are at least `left` records. Assumes nothing.
use Rattle.std.proofs.Common.{◌+◌, ◌≤◌}
use Rattle.search_hints.proofs.search_part.Given as goal

abbrev pub invariant-loop-left : goal.invariant-loop-left
invariant-loop-left l = l.p + l.left ≤ l.records.count

abbrev pub decreases-loop-left : goal.decreases-loop-left
decreases-loop-left l = l.left
