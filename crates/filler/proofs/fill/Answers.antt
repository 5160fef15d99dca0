-- `filler::fill` meets its contract: each pass hands on what the next needs, and what is written is cleared behind. Assumes nothing.
use mathlib.Core.Path.{refl}
use Rattle.filler.proofs.Passing.{finished, drawn, drawing, lists_filled}
use Rattle.filler.proofs.fill.Goals as goal

pub write-requires : goal.write-requires
write-requires c =
    let p = c.requires in
    let f = finished _ _ _ c.args.levels.lent p.0 c.args.orders c.args.lists.now.table.now c.args.counts.nodes _ p.1 c.args.counts c.args.lists.now.edges.now c.args.lists.now.clauses.now p.2 in
    drawn _ _ _ c.args.levels.lent p.0 c.args.orders c.args.lists.now.table.now c.args.counts.nodes _ p.1 c.args.counts c.args.lists.now.edges.now c.args.lists.now.clauses.now _ _ p.2
    (c.link.ensures p.0 f)

pub returns-clause-filled : goal.returns-clause-filled
returns-clause-filled c =
    λ a B M.
    let f = finished _ _ _ c.args.levels.lent a c.args.orders c.args.lists.now.table.now c.args.counts.nodes _ B c.args.counts c.args.lists.now.edges.now c.args.lists.now.clauses.now M in
    let k = c.link.ensures a f in
    let d = drawing _ _ _ c.args.levels.lent a c.args.orders c.args.lists.now.table.now c.args.counts.nodes _ B c.args.lists.now.edges.now _ _ k in
    lists_filled _ _ _ c.args.levels.lent a c.args.orders c.args.lists.now.table.now c.args.counts.nodes _ B c.args.counts c.args.lists.now.edges.now c.args.lists.now.clauses.now _ _ _ _ _ _ _ refl M k
    (c.write.ensures _ _ d)
    c.fill_from.ensures c.fill_from-2.ensures c.fill_from-3.ensures
