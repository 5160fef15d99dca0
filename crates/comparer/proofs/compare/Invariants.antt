-- `comparer::compare` meets its contract. The loop's invariant: every word before word k has its own bytes. Assumes nothing.
use Rattle.comparer.specs.Four.{AllHave}
use Rattle.comparer.proofs.compare.Given as goal

abbrev pub invariant-loop-k : goal.invariant-loop-k
invariant-loop-k l = AllHave l.bytes l.words l.k
