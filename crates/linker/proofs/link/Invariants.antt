-- `linker::link` meets its contract. The loop's invariant: what is asked for of the records from `node` on stands behind what is written for those before.
-- Assumes nothing.
use Rattle.linker.proofs.Turns.{Turn}
use Rattle.linker.proofs.link.Given as goal

abbrev pub invariant-loop-node : goal.invariant-loop-node
invariant-loop-node l = Turn l.levels.coefficients.now l.levels.ends.now l.levels.rests.now l.initial.table l.initial.edges l.count l.table l.edges l.first l.node
