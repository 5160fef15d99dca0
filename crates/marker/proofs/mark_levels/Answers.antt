-- `marker::mark_levels` meets its contract: without records the bound is held against R_1. Assumes nothing.
use native.Mathlib.Omega.{arith}
use borrow.Author.Rules.{rules}
use mathlib.Core.Path.{refl}
use Rattle.constraint.proofs.Slices.{rests_count, rest_at}
use Rattle.marker.proofs.Judging.{none_refused, none_passed}
use Rattle.marker.proofs.mark_levels.Goals as goal

pub bounds-levels-0 : goal.bounds-levels-0
bounds-levels-0 c = omega (arith, rests_count _ _ _ c.args.levels.lent)

pub returns-then-bound-levels : goal.returns-then-bound-levels
returns-then-bound-levels c =
    none_refused _ _ _ _ (search rules) c.args.bound refl (omega (arith, c.if-bound-levels.true, rest_at _ _ _ c.args.levels.lent 0 (omega arith)))

pub returns-then-table-eq0 : goal.returns-then-table-eq0
returns-then-table-eq0 c =
    none_passed _ _ _ _ (search rules) c.args.bound refl (omega (arith, c.if-bound-levels.false, rest_at _ _ _ c.args.levels.lent 0 (omega arith)))
