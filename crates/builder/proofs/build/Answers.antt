-- `builder::build` meets its contract: the node of the bound, built into an empty store, with both runs merged, is the diagram. Assumes nothing.
use mathlib.Core.List.{List}
use mathlib.Core.Path.{subst}
use Prim.Native.Nat.{ℕ, ◌<◌}
use native.Mathlib.Omega.{arith}
use lib.ListN.{get_or}
use Rattle.std.proofs.Common.{rules}
use Rattle.constraint.specs.Lent.{levels_of}
use Rattle.builder.specs.Built.{DiagramBuilt}
use Rattle.builder.proofs.Bounds.{none_found, top_first, start_good, root_done, root_short}
use Rattle.builder.proofs.build.Goals as goal

pub build_node-requires-clause-good : goal.build_node-requires-clause-good
build_node-requires-clause-good c =
    let L = c.args.levels in
    let new = c.new-runs.ensures in
    rw (new.empty.0, new.empty.1) (start_good L.coefficients.now L.ends.now L.rests.now L.lent c.new-runs.result.table.now _, omega (arith, c.requires.0, new.words.1))

pub build_node-requires-clause-r_bound : goal.build_node-requires-clause-r_bound
build_node-requires-clause-r_bound c =
    let L = c.args.levels in
    rw c.new-runs.ensures.empty.1 (omega (arith, c.requires.1, top_first L.coefficients.now L.ends.now L.rests.now L.lent), none_found c.new-runs.result.table.now 1 c.args.bound.0)

pub returns-in_err-build_node : goal.returns-in_err-build_node
returns-in_err-build_node c =
    let L = c.args.levels in
    let new = c.new-runs.ensures in
    let d = rw (new.words.0, new.empty.1) at c.in_err-build_node.ensures.node in
    rw c.from_residual.ensures (c.requires.1, root_short L.coefficients.now L.ends.now L.rests.now L.lent c.args.bound.0 c.args.table.now d)

pub returns : goal.returns
returns c =
    let L = c.args.levels in
    let new = c.new-runs.ensures in
    let d = rw (new.words.0, new.empty.1) at c.in_ok-build_node.ensures.node in
    let u : c.args.bound.0 < get_or L.rests.now 0 0 = omega (arith, c.requires.1, top_first L.coefficients.now L.ends.now L.rests.now L.lent) in
    let done = root_done L.coefficients.now L.ends.now L.rests.now L.lent c.args.bound.0 c.args.table.now _ _ _ _ _ _ u d c.merge.ensures.merged in
    rw c.merge.ensures.counts.1 (subst (λ (t : List ℕ). DiagramBuilt (levels_of L.coefficients.now L.ends.now) c.args.bound.0 c.args.table.now t c.build_node.new.runs.count) (search rules) done)
