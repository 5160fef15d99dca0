-- THE EDGES THAT ENTER A NODE, after document 02: counted as often as they occur. The root's unit clause is no edge. Assumes nothing.
use Rattle.std.specs.Prelude.{List, [], ◌∷◌, cond, ℕ, zero, suc, ◌+◌, eqb}
use Rattle.word.specs.Edge.{Edge, F, T, to}
use Rattle.diagram.specs.Table.{Node}

-- How often node n is an edge's end: once or not at all.
abbrev pub ends_at : ℕ → Edge → ℕ
ends_at n F = 0
ends_at n T = 0
ends_at n (to m) = cond (eqb m n) 1 0

-- How many edges of a list end at node n.
unfoldable pub times : ℕ → List Edge → ℕ
times n [] = 0
times n (e ∷ es) = ends_at n e + times n es

-- THE NUMBER OF ENTERING EDGES of node n: how many children of all nodes are this node.
unfoldable pub entering : ℕ → List Node → ℕ
entering n [] = 0
entering n (x ∷ xs) = times n x.children + entering n xs

-- For the law that they add up: the edges of a list, and of all nodes, that lead to nodes,
abbrev pub to_node : Edge → ℕ
to_node F = 0
to_node T = 0
to_node (to m) = 1

unfoldable pub to_nodes : List Edge → ℕ
to_nodes [] = 0
to_nodes (e ∷ es) = to_node e + to_nodes es

unfoldable pub edges_to_nodes : List Node → ℕ
edges_to_nodes [] = 0
edges_to_nodes (x ∷ xs) = to_nodes x.children + edges_to_nodes xs

-- and the sum of what a count gives for the first n numbers.
unfoldable pub sum_below : (ℕ → ℕ) → ℕ → ℕ
sum_below f zero = 0
sum_below f (suc n) = sum_below f n + f n
