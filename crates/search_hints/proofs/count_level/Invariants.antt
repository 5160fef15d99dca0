-- `search_hints::count_level` keeps within both lists: a record of the level is one of the first `count`, and each part ends within the words of the level.
-- The measure is the number of records left. Assumes nothing.
use Rattle.std.proofs.Common.{◌≡◌, ◌+◌, ◌-◌, ◌≤◌, length}
use Rattle.search_hints.specs.Level.{level_words}
use Rattle.search_hints.proofs.count_level.Given as goal

abbrev pub invariant-loop-records : goal.invariant-loop-records
invariant-loop-records l = (length l.work ≡ length l.initial.work) × (l.at + level_words ≤ length l.initial.work)

abbrev pub decreases-loop-records : goal.decreases-loop-records
decreases-loop-records l = l.records.count - l.e
