-- `linker::row` meets its contract. The loop's invariant: the words of the children before j are written, those children are counted, and `taken` is what j
-- takes. Assumes nothing.
use Prim.Native.Nat.{◌*◌}
use mathlib.Core.Path.{◌≡◌}
use mathlib.Core.List.{map}
use lib.ListN.{take}
use lib.Seq.{paste}
use Rattle.word.specs.Edge.{edge_word}
use Rattle.word.specs.Record.{labelled}
use Rattle.linker.specs.Row.{row_at}
use Rattle.linker.specs.Counting.{entered}
use Rattle.linker.proofs.row.Given as goal

abbrev pub invariant-loop-j : goal.invariant-loop-j
invariant-loop-j l = (l.taken ≡ l.coef * l.j)
    × (l.words ≡ paste l.initial.words 0 (map edge_word (row_at l.levels.coefficients.now l.levels.ends.now l.levels.rests.now (labelled l.initial.table l.count) l.i l.lower)) l.j)
    × (l.table ≡ entered l.initial.table (take l.j (row_at l.levels.coefficients.now l.levels.ends.now l.levels.rests.now (labelled l.initial.table l.count) l.i l.lower)))
