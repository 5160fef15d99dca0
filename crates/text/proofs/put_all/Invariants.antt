-- The bytes before the turn's are in, and those from it on are left. Assumes nothing.
use lib.ListN.{drop}
use Rattle.text.proofs.Cuts.{Left}
use Rattle.text.proofs.put_all.Given as goal

abbrev pub invariant-loop-byte : goal.invariant-loop-byte
invariant-loop-byte l = Left l.text l.start l.initial.out (drop l.byte-index l.text) l.at l.out
