-- `finder::search` meets its contract. The loop's invariant: on any records that the calls read, the reply is what the definition gives from record k on, and the
-- gap of the records before is counted; and the gap is no more than k. Assumes nothing.
use Rattle.std.proofs.Common.{◌≡◌, List, length, ◌≤◌}
use Rattle.word.specs.Record.{Record}
use Rattle.finder.specs.Find.{ReadBy}
use Rattle.finder.proofs.Laws.{Past}
use Rattle.finder.proofs.search.Given as goal

abbrev pub invariant-loop-k : goal.invariant-loop-k
invariant-loop-k g l =
    (l.gap ≤ l.k) × ((xs : List Record) → length xs ≡ l.count → ReadBy (goal.F-post g l.read) xs → Past xs l.level l.r.0 l.k l.gap)
