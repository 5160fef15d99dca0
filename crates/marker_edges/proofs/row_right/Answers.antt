-- `marker_edges::row_right` meets its contract. The loop's invariant: the row is what is left of it from value j on, which takes the offset. Assumes nothing.
use borrow.Author.Rules.{rules}
use Rattle.marker_edges.proofs.Turns.{by_end, row_fails, row_goes_on, row_ends}
use Rattle.marker_edges.proofs.row_right.Goals as goal

pub returns-then-not-edge_right : goal.returns-then-not-edge_right
returns-then-not-edge_right c =
    let test = by_end _ _ _ _ _ c.from-end.ensures _ c.edge_right.ensures in
    row_fails _ _ _ _ _ _ c.edges.invariant (search rules) _ test c.if-not-edge_right.true

pub edges-preserved : goal.edges-preserved
edges-preserved c =
    let test = by_end _ _ _ _ _ c.from-end.ensures _ c.edge_right.ensures in
    row_goes_on _ _ _ _ _ _ c.edges.invariant (search rules) _ test c.if-not-edge_right.false

pub returns : goal.returns
returns c = row_ends _ _ _ _ _ _ c.edges.invariant (search rules)
