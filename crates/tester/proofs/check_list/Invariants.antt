-- `tester::check_list` meets its contract. The loop's invariant: the words before `at` pass and leave `count` literals without an end word, so the check
-- is what the definition gives from there on. Assumes nothing.
use Rattle.std.proofs.Common.{◌≡◌, ◌≤◌, drop}
use Rattle.clause.specs.Check.{list_from}
use Rattle.tester.proofs.check_list.Given as goal

abbrev pub invariant-loop-at : goal.invariant-loop-at
invariant-loop-at l = (l.count ≤ l.at) × (list_from l.known 0 0 l.words ≡ list_from l.known l.at l.count (drop l.at l.words))
