-- `printout_lines::put_nodes` meets its contract. The invariant, for every drawing that lies in the memory: the lines of the nodes before the next are in, and those from
-- it on are left. Assumes nothing.
use native.Mathlib.Omega.{arith}
use Rattle.text.proofs.Cuts.{left_less, left_none}
use Rattle.printout_lines.proofs.Drawn.{places, lines_turn, lines_none}
use Rattle.printout_lines.proofs.put_nodes.Goals as goal

pub slice_bounds-put_node-count : goal.slice_bounds-put_node-count
slice_bounds-put_node-count c =
    let l = c.requires.1 in
    let w = places l c.nodes.node _ _ (omega arith) (c.first_edge-first.ensures _ _ l) (c.first_edge-past.ensures _ _ l) in
    w.0

pub slice_bounds-put_node-start : goal.slice_bounds-put_node-start
slice_bounds-put_node-start c =
    let l = c.requires.1 in
    let w = places l c.nodes.node _ _ (omega arith) (c.first_edge-first.ensures _ _ l) (c.first_edge-past.ensures _ _ l) in
    w.0

pub slice_bounds-put_node-end : goal.slice_bounds-put_node-end
slice_bounds-put_node-end c =
    let l = c.requires.1 in
    let w = places l c.nodes.node _ _ (omega arith) (c.first_edge-first.ensures _ _ l) (c.first_edge-past.ensures _ _ l) in
    w.1

pub offset_bounds-edges-first : goal.offset_bounds-edges-first
offset_bounds-edges-first c =
    let l = c.requires.1 in
    let w = places l c.nodes.node _ _ (omega arith) (c.first_edge-first.ensures _ _ l) (c.first_edge-past.ensures _ _ l) in
    omega (arith, w.0, w.1)

pub nodes-preserved : goal.nodes-preserved
nodes-preserved c =
    λ ns l.
    left_less (lines_turn l c.nodes.node _ _ (omega arith) (c.first_edge-first.ensures ns _ l) (c.first_edge-past.ensures ns _ l)) (c.nodes.invariant ns l)
    c.put_node-at.ensures

pub returns : goal.returns
returns c = λ ns l. left_none (lines_none l c.nodes.node (omega arith)) (c.nodes.invariant ns l)
