-- `printout_lines::put_nodes` meets its contract. The invariant, for every drawing that lies in the memory: the lines of the nodes before the next are in, and those from
-- it on are left. Assumes nothing.
use mathlib.Core.List.{List}
use Rattle.diagram.specs.Table.{Node}
use Rattle.printout_lines.specs.Lying.{Lying}
use Rattle.text.proofs.Cuts.{Left}
use Rattle.printout_lines.proofs.Drawn.{lines_left}
use Rattle.printout_lines.proofs.put_nodes.Given as goal

abbrev pub invariant-nodes : goal.invariant-nodes
invariant-nodes l = (ns : List Node) → Lying ns l.table l.count l.edges l.total → Left (lines_left ns 0) l.start l.initial.out (lines_left ns l.node) l.at l.out
