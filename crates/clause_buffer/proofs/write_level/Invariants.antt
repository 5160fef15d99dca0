-- `clause_buffer::write_level` meets its contract. The invariant: the clauses of the values before j are in, and those from j on are left. Assumes nothing.
use Prim.Native.Nat.{suc, ◌-◌}
use Rattle.clause.specs.Meaning.{words_of}
use Rattle.encoding.specs.Pattern.{order_of}
use Rattle.clause_buffer.proofs.Writing.{WordsLeft}
use Rattle.clause_buffer.proofs.Turns.{order_left}
use Rattle.clause_buffer.proofs.write_level.Given as goal

abbrev pub invariant-loop-j : goal.invariant-loop-j
invariant-loop-j l = WordsLeft (words_of (order_of (suc l.earlier) (l.end - 1))) l.start l.initial.out (order_left l.earlier l.end l.j) l.at l.out
