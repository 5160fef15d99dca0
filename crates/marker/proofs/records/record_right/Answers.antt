-- `marker::records::record_right` meets its contract: each test that fails makes the record wrong, and behind the last of them the row decides. Assumes nothing.
use native.Mathlib.Omega.{arith}
use borrow.Author.Rules.{rules}
use Rattle.constraint.proofs.Slices.{rests_count}
use Rattle.marker.proofs.Tests.{no_level_lem, level_past, ends_crossed, edges_past, row_small, row_decides}
use Rattle.marker.proofs.records.record_right.Goals as goal

pub returns-then-level-lt1 : goal.returns-then-level-lt1
returns-then-level-lt1 c = no_level_lem _ _ _ c.args.levels.lent _ _ _ c.if-level-lt1.true

pub returns-then-levels-level : goal.returns-then-levels-level
returns-then-levels-level c = level_past _ _ _ c.args.levels.lent _ _ _ c.if-levels-level.true

pub returns-then-x : goal.returns-then-x
returns-then-x c = ends_crossed _ _ _ c.args.levels.lent _ _ _ c.if-x.true

pub returns-then-edges-to : goal.returns-then-edges-to
returns-then-edges-to c = edges_past _ _ _ c.args.levels.lent _ _ _ (search rules) (search rules) _ c.past_edges-to.ensures c.if-edges-to.true

pub bounds-levels-level : goal.bounds-levels-level
bounds-levels-level c = omega (arith, rests_count _ _ _ c.args.levels.lent)

pub row_right-requires : goal.row_right-requires
row_right-requires c =
    let a = c.args in
    row_small _ _ _ c.args.levels.lent a.table.words.now _ a.x (search rules) (search rules) _ c.past_edges-to.ensures

pub returns : goal.returns
returns c = row_decides _ _ _ c.args.levels.lent _ _ _ (search rules) (search rules) _ c.past_edges-to.ensures (search rules) (search rules) _ c.row_right.ensures
