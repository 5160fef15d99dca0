-- `dimacs_reader::read` meets its contract. The invariant: the bytes before i are read, and what they said and what the rest will say are what the whole text
-- says (`Mid`). Assumes nothing.
use Rattle.dimacs_step.specs.View.{view}
use Rattle.dimacs_reader.proofs.Loop.{Mid}
use Rattle.dimacs_reader.proofs.read.Given as goal

abbrev pub invariant-loop-i : goal.invariant-loop-i
invariant-loop-i l = Mid l.text l.initial.out l.out (view l.s) l.n l.i
