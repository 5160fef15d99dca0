-- `search_ordered::gap_any` meets its contract. The loop's invariant: the records before lo lie before the remainder and those from hi on do not. The
-- measure is the number of records between. Assumes nothing.
use Prim.Native.Nat.{◌-◌, ◌≤◌}
use Rattle.word.specs.Record.{labelled}
use Rattle.search_ordered.proofs.Search.{Bracket}
use Rattle.search_ordered.proofs.gap_any.Given as goal

abbrev pub invariant-loop-lo : goal.invariant-loop-lo
invariant-loop-lo l =
    Bracket (labelled l.ordered.records.table.now l.ordered.records.count) l.level l.r.0 l.lo l.hi × (l.hi ≤ l.ordered.records.count)

abbrev pub decreases-loop-lo : goal.decreases-loop-lo
decreases-loop-lo l = l.hi - l.lo
