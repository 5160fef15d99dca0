-- `builder_steps::put` meets its contract, by those of settling the runs and of putting into the second. Assumes nothing.
use lib.ListN.{length}
use Rattle.search_runs.proofs.Views.{settled_both}
use Rattle.builder_steps.proofs.Settling.{settled_missing}
use Rattle.builder_steps.proofs.put.Goals as goal

pub put-requires-clause-second : goal.put-requires-clause-second
put-requires-clause-second c =
    let s = c.args.runs.now in
    let S = c.settle.ensures.settled in
    let v = settled_both s.table.now s.main s.count (length s.work.now) _ _ c.requires.0.runs c.requires.0.apart S in
    rw c.settle.ensures.same_count (v.0.pending, settled_missing s.table.now s.main s.count (length s.work.now) _ _ c.requires.0 S c.args.level c.args.r.0 c.requires.2)
