-- `marker_edges::row_right` meets its contract. The loop's invariant: the row is what is left of it from value j on, which takes the offset. Assumes nothing.
use Rattle.marker_edges.proofs.Turns.{EdgesBefore}
use Rattle.marker_edges.proofs.row_right.Given as goal

abbrev pub invariant-edges : goal.invariant-edges
invariant-edges l = EdgesBefore l.table.words.now l.p l.coef l.edges l.offset l.w-index
