-- `builder::find_node`, `builder::build_node` and `builder::build_row`, which call each other, meet their contracts. From a row to its children's nodes the
-- levels left fall. Document 01 has the children left fall behind them; here the row is a loop, whose turns take one child each. Each answer is a step of
-- building. Assumes nothing.
use mathlib.Core.Path.{sym, subst, ◌∙◌}
use Prim.Native.Nat.{◌+◌}
use native.Mathlib.Omega.{arith}
use lib.ListN.{length, get_or}
use Rattle.finder.proofs.Says.{nothing_missing}
use Rattle.constraint.proofs.Slices.{rest_at, rests_count}
use Rattle.search_runs.proofs.Keeping.{kept_on}
use Rattle.builder_steps.specs.Put.{Two}
use Rattle.builder.specs.Built.{Good}
use Rattle.builder.proofs.Steps.{small, product, ready_next, on_case, found_ok, row_missing, node_put_ok, moved_fits, sofar_skip, sofar_node, sofar_full, sofar_end}
use Rattle.builder.proofs.+building.Goals as goal

pub find_node-build_node-requires : goal.find_node-build_node-requires
find_node-build_node-requires t c = (omega arith, (c.requires.level, (c.requires.good, (c.requires.r_bound, nothing_missing _ _ _ _ (sym c.find.ensures ∙ c.in_default.is)))))

pub find_node-at-requires : goal.find_node-at-requires
find_node-at-requires t c =
    let L = c.args.levels.now in
    let s = c.args.runs.now in
    (found_ok L.coefficients.now L.ends.now L.rests.now s.table.now s.main s.count (length s.work.now) c.args.i c.args.r.0 c.in-Ok.k.0 c.requires.good.0 (sym c.find.ensures ∙ c.in-Ok.is)).0

pub find_node-returns-clause-node : goal.find_node-returns-clause-node
find_node-returns-clause-node t c =
    let L = c.args.levels.now in
    let s = c.args.runs.now in
    (found_ok L.coefficients.now L.ends.now L.rests.now s.table.now s.main s.count (length s.work.now) c.args.i c.args.r.0 c.in-Ok.k.0 c.requires.good.0 (sym c.find.ensures ∙ c.in-Ok.is)).1
    c.at.result c.at.ensures

pub build_node-put-requires : goal.build_node-put-requires
build_node-put-requires t c =
    let L = c.args.levels.now in
    let s = c.args.runs.now in
    let d = c.in_ok-e.ensures.row in
    let same = c.in_ok-e.ensures.kept.work_long in
    let none = row_missing L.coefficients.now L.ends.now L.rests.now c.args.i c.args.r.0 s.table.now s.main s.count (length s.work.now) _ _ _ _ c.requires.good.0 c.requires.r_bound.1 d in
    (subst (Two _ _ _) (sym same) d.two, omega (arith, same, c.requires.good.1), none)

pub build_node-returns-clause-node : goal.build_node-returns-clause-node
build_node-returns-clause-node t c =
    let L = c.args.levels.now in
    let row = c.in_ok-e.ensures in
    node_put_ok L.coefficients.now L.ends.now L.rests.now c.args.i c.args.r.0 c.args.runs.now c.build_row.new.runs c.in_ok-e.e c.put.new.runs c.put.result
    row.kept.work_long (record { lent = L.lent; level = c.requires.level }) c.requires.good.0 c.requires.r_bound.0 c.requires.r_bound.1 row.row c.put.ensures.put

pub build_row-child-branch-requires : goal.build_row-child-branch-requires
build_row-child-branch-requires t c =
    let L = c.args.levels.now in
    let l = c.loop-j in
    let pr = product L.coefficients.now L.ends.now L.rests.now c.args.i l.j (record { lent = L.lent; level = c.requires.level }) (omega (arith, l.auto.j-end)) in
    (c.requires.level, omega (arith, c.requires.level, rests_count _ _ _ L.lent), omega (arith, pr, rest_at _ _ _ L.lent c.args.i (omega (arith, c.requires.level)), small L.coefficients.now L.ends.now L.rests.now L.lent c.args.i))

pub build_row-loop-j-preserved-in_default : goal.build_row-loop-j-preserved-in_default
build_row-loop-j-preserved-in_default t c =
    let L = c.args.levels.now in
    let l = c.loop-j in (
      sofar_skip L.coefficients.now L.ends.now L.rests.now _ _ _ _ _ _ _ _ _ _ (record { lent = L.lent; level = c.requires.level }) l.invariant.0 (omega (arith, l.auto.j-end))
          c.child-branch.result c.child-branch.ensures c.in_default.not-On c.cut-e.result c.cut-e.ensures,
      l.invariant.1,
    )

pub build_row-find_node-requires : goal.build_row-find_node-requires
build_row-find_node-requires t c =
    let L = c.args.levels.now in
    let l = c.loop-j in
    let k = on_case (get_or L.coefficients.now c.args.i 0) (get_or L.rests.now (c.args.i + 1) 0) c.args.r.0 l.j c.child-branch.result c.in-On.c c.in-On.moved c.in-On.is c.child-branch.ensures in
    let same = l.invariant.1.work_long in (
      omega (arith, c.requires.level),
      (
        (ready_next L.coefficients.now L.ends.now L.rests.now c.args.i _ (record { lent = L.lent; level = c.requires.level }) k.below).level,
        ((subst (Good _ _ _ _ _) (sym same) l.invariant.0.good', omega (arith, same, c.requires.good.1)), k.below),
      ),
    )

pub build_row-returns-in_err-s-clause-row : goal.build_row-returns-in_err-s-clause-row
build_row-returns-in_err-s-clause-row t c =
    let L = c.args.levels.now in
    let l = c.loop-j in
    let k = on_case (get_or L.coefficients.now c.args.i 0) (get_or L.rests.now (c.args.i + 1) 0) c.args.r.0 l.j c.child-branch.result c.in-On.c c.in-On.moved c.in-On.is c.child-branch.ensures in
    rw c.from_residual.ensures
    (sofar_full L.coefficients.now L.ends.now L.rests.now _ _ _ _ _ _ _ _ _ _ (record { lent = L.lent; level = c.requires.level }) l.invariant.0 (omega (arith, l.auto.j-end)) _ _ k c.in_err-s.ensures.node)

pub build_row-overlap-e-requires : goal.build_row-overlap-e-requires
build_row-overlap-e-requires t c =
    let L = c.args.levels.now in
    let l = c.loop-j in
    let k = on_case (get_or L.coefficients.now c.args.i 0) (get_or L.rests.now (c.args.i + 1) 0) c.args.r.0 l.j c.child-branch.result c.in-On.c c.in-On.moved c.in-On.is c.child-branch.ensures in
    moved_fits L.coefficients.now L.ends.now L.rests.now c.args.i c.args.r.0 l.j (record { lent = L.lent; level = c.requires.level }) (omega (arith, l.auto.j-end)) _ _ k _ c.in_ok-s.ensures.node.lab

pub build_row-loop-j-preserved : goal.build_row-loop-j-preserved
build_row-loop-j-preserved t c =
    let L = c.args.levels.now in
    let l = c.loop-j in
    let k = on_case (get_or L.coefficients.now c.args.i 0) (get_or L.rests.now (c.args.i + 1) 0) c.args.r.0 l.j c.child-branch.result c.in-On.c c.in-On.moved c.in-On.is c.child-branch.ensures in (
      sofar_node L.coefficients.now L.ends.now L.rests.now _ _ _ _ _ _ _ _ _ _ (record { lent = L.lent; level = c.requires.level }) l.invariant.0 (omega (arith, l.auto.j-end)) _ _ k _ _ _ _
          (rw l.invariant.1.work_long at c.in_ok-s.ensures.node) c.overlap-e.result c.overlap-e.ensures,
      kept_on _ _ _ l.invariant.1 c.in_ok-s.ensures.kept,
    )

pub build_row-returns-in_default : goal.build_row-returns-in_default
build_row-returns-in_default t c =
    let L = c.args.levels.now in
    let l = c.loop-j in
    let so = sofar_skip L.coefficients.now L.ends.now L.rests.now _ _ _ _ _ _ _ _ _ _ (record { lent = L.lent; level = c.requires.level }) l.invariant.0 (omega (arith, l.auto.j-end))
    c.child-branch.result c.child-branch.ensures c.in_default.not-On c.cut-e.result c.cut-e.ensures in
    record {
      row = sofar_end L.coefficients.now L.ends.now L.rests.now _ _ _ _ _ _ _ _ _ _ (record { lent = L.lent; level = c.requires.level }) so (omega arith);
      kept = l.invariant.1;
    }

pub build_row-returns-in_ok-s-clause-row : goal.build_row-returns-in_ok-s-clause-row
build_row-returns-in_ok-s-clause-row t c =
    let L = c.args.levels.now in
    let l = c.loop-j in
    let k = on_case (get_or L.coefficients.now c.args.i 0) (get_or L.rests.now (c.args.i + 1) 0) c.args.r.0 l.j c.child-branch.result c.in-On.c c.in-On.moved c.in-On.is c.child-branch.ensures in
    let so = sofar_node L.coefficients.now L.ends.now L.rests.now _ _ _ _ _ _ _ _ _ _ (record { lent = L.lent; level = c.requires.level }) l.invariant.0 (omega (arith, l.auto.j-end)) _ _ k _ _ _ _
    (rw l.invariant.1.work_long at c.in_ok-s.ensures.node) c.overlap-e.result c.overlap-e.ensures in
    sofar_end L.coefficients.now L.ends.now L.rests.now _ _ _ _ _ _ _ _ _ _ (record { lent = L.lent; level = c.requires.level }) so (omega arith)
