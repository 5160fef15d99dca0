-- `printout::words_of` meets its contract. The invariant: the first k words are in. Assumes nothing.
use Rattle.printout.proofs.Input.{Read}
use Rattle.printout.proofs.words_of.Given as goal

abbrev pub invariant-words : goal.invariant-words
invariant-words l = Read l.bytes l.initial.words l.words l.k
