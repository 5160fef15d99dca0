-- `clause_buffer::put_clause` meets its contract. The invariant: the literals before k are in, and those from k on are left, with the end word. Assumes nothing.
use mathlib.Core.List.{[], ◌∷◌, ◌++◌}
use Prim.Native.Nat.{◌+◌}
use lib.ListN.{drop}
use Rattle.word.specs.Word.{end_word}
use Rattle.clause_buffer.proofs.Writing.{WordsLeft}
use Rattle.clause_buffer.proofs.put_clause.Given as goal

abbrev pub invariant-loop-k : goal.invariant-loop-k
invariant-loop-k g l = WordsLeft (l.literals ++ (end_word g.row.N ∷ [])) l.at l.initial.out (drop l.k l.literals ++ (end_word g.row.N ∷ [])) (l.at + l.k) l.out
