-- `marker::records::mark_records` meets its contract. The loop's invariant: the judgement is what is left of it from record k on. Assumes nothing.
use mathlib.Core.Path.{◌≡◌}
use lib.IntN.{pos}
use Rattle.word.specs.Record.{records}
use Rattle.constraint.specs.Lent.{levels_of}
use Rattle.marking.specs.Judged.{judged}
use Rattle.marker.proofs.Judging.{judged_from}
use Rattle.marker.proofs.records.mark_records.Given as goal

abbrev pub invariant-records : goal.invariant-records
invariant-records l =
    let ls = levels_of l.levels.coefficients.now l.levels.ends.now in
    judged ls (pos l.bound) (records l.table) l.edges ≡ judged_from ls (pos l.bound) l.table l.edges l.k
