-- `search_ordered::gap_low` meets its contract. The loop's invariant: the gap is at least p and at most `left` more; each turn leaves at most half of
-- them. Assumes nothing.
use Prim.Native.Nat.{◌+◌, ◌≤◌}
use Rattle.word.specs.Record.{labelled}
use Rattle.search_ordered.proofs.Search.{Bracket}
use Rattle.search_ordered.proofs.gap_low.Given as goal

abbrev pub invariant-loop-left : goal.invariant-loop-left
invariant-loop-left l =
    Bracket (labelled l.ordered.records.table.now l.ordered.records.count) l.level l.r.0 l.p (l.p + l.left) × (l.p + l.left ≤ l.ordered.records.count)

abbrev pub decreases-loop-left : goal.decreases-loop-left
decreases-loop-left l = l.left
