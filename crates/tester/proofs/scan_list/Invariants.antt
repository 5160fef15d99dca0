-- `tester::scan_list` meets its contract. The loop's invariant: the clauses before this one are true, so the reply is what the definition gives from there on. The
-- measure is the number of words left. Assumes nothing.
use Rattle.std.proofs.Common.{◌≡◌, ◌≤◌, ◌-◌, length, drop}
use Rattle.clause.specs.Meaning.{clauses_of}
use Rattle.tester.specs.Tested.{value_in, scan}
use Rattle.tester.proofs.scan_list.Given as goal

abbrev pub invariant-loop-n : goal.invariant-loop-n
invariant-loop-n l = (l.at ≤ length l.words)
    × (l.clause ≤ l.at)
    × (scan (value_in l.values) 0 0 (clauses_of l.words) ≡ scan (value_in l.values) l.clause l.at (clauses_of (drop l.at l.words)))

abbrev pub decreases-loop-n : goal.decreases-loop-n
decreases-loop-n l = length l.words - l.at
