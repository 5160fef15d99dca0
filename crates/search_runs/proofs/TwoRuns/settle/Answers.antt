-- `TwoRuns::settle` meets its contract, by that of merging. Assumes nothing.
use mathlib.Core.Logic.{inr}
use native.Mathlib.Omega.{arith}
use Rattle.search_runs.proofs.TwoRuns.settle.Goals as goal

pub returns-clause-settled : goal.returns-clause-settled
returns-clause-settled c =
    let merged = c.merge.ensures in
    record { within = omega (arith, merged.counts.0); free = omega (arith, merged.counts.0); long = merged.kept.table_long; way = inr (merged.counts.0, merged.merged) }
