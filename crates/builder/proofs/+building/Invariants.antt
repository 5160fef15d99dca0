-- `builder::find_node`, `builder::build_node` and `builder::build_row`, which call each other, meet their contracts. From a row to its children's nodes the
-- levels left fall. Document 01 has the children left fall behind them; here the row is a loop, whose turns take one child each. Each answer is a step of
-- building. Assumes nothing.
use Rattle.std.proofs.Common.{◌+◌, ◌-◌, length, ◌*◌}
use Rattle.search_runs.specs.RunsKept.{RunsKept}
use Rattle.builder.proofs.Steps.{Sofar}
use Rattle.builder.proofs.+building.Given as goal

-- Levels left fall from a row to the nodes of its children; at one level the search comes before the building, and that before the row.
abbrev pub decreases-find_node : goal.decreases-find_node
decreases-find_node l = (length l.levels.now.coefficients.now - l.i) * 3 + 2

abbrev pub decreases-build_node : goal.decreases-build_node
decreases-build_node l = (length l.levels.now.coefficients.now - l.i) * 3 + 1

abbrev pub decreases-build_row : goal.decreases-build_row
decreases-build_row l = (length l.levels.now.coefficients.now - l.i) * 3

-- before each child: the row so far
abbrev pub invariant-build_row-loop-j : goal.invariant-build_row-loop-j
invariant-build_row-loop-j l =
    Sofar l.levels.coefficients.now l.levels.ends.now l.levels.rests.now l.i l.r.0 l.fn.runs.table.now l.fn.runs.count (length l.fn.runs.work.now) l.j l.e l.runs.table.now l.runs.main l.runs.count
    × RunsKept l.fn.runs l.runs
