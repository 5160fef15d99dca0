-- `clause_buffer::write_levels` meets its contract. The invariant: the clauses of the levels before this one are in, and those from it on are left. Assumes nothing.
use Prim.Native.Nat.{◌+◌, ◌≤◌}
use lib.ListN.{drop}
use Rattle.word.specs.Word.{last_boolean}
use Rattle.clause.specs.Meaning.{words_of}
use Rattle.encoding.specs.Pattern.{orders_of}
use Rattle.encoding.specs.Boolean.{orders}
use Rattle.clause_buffer.specs.Ended.{ended}
use Rattle.clause_buffer.proofs.Writing.{WordsLeft}
use Rattle.clause_buffer.proofs.Turns.{levels_left}
use Rattle.clause_buffer.proofs.write_levels.Given as goal

abbrev pub invariant-loop-end : goal.invariant-loop-end
invariant-loop-end l = (l.earlier + orders (ended (drop l.end-index l.ends)) ≤ last_boolean) × WordsLeft (words_of (orders_of 0 (ended l.ends))) 0 l.initial.out (levels_left l.ends l.earlier l.end-index) l.at l.out
