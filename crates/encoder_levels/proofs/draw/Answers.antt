-- `encoder_levels::draw` meets its contract: a decided bound has no nodes, and an undecided one is a remainder of 32 bits, whose diagram is built into the capacity.
-- Assumes nothing.
use mathlib.Core.Path.{sym, ◌∙◌}
use native.Mathlib.Omega.{arith}
use Rattle.constraint_bound.proofs.Laws.{negative_is, natural_is}
use Rattle.constraint.proofs.Slices.{rests_count, rest_at}
use Rattle.encoder_levels.proofs.Tables.{drawn_f, drawn_t, drawn_node}
use Rattle.encoder_levels.proofs.draw.Goals as goal

pub bounds-levels-0 : goal.bounds-levels-0
bounds-levels-0 c = omega (arith, rests_count _ _ _ c.args.levels.lent)

pub build_root-requires : goal.build_root-requires
build_root-requires c = omega (arith, rest_at _ _ _ c.args.levels.lent 0 (omega arith))

pub returns-then-b-levels : goal.returns-then-b-levels
returns-then-b-levels c =
    λ a e. drawn_node c.args.limits c.args.levels.coefficients.now c.args.levels.ends.now a _ (natural_is a _ (sym c.in-Natural.is ∙ e)) c.args.table.now _ c.room-past.ensures _ _
    c.in_ok-nodes-in-Natural.ensures

pub returns-else-b-levels : goal.returns-else-b-levels
returns-else-b-levels c = λ a e. drawn_t c.args.limits c.args.levels.coefficients.now c.args.levels.ends.now a _ _ (natural_is a _ (sym c.in-Natural.is ∙ e)) (omega (arith, rest_at _ _ _ c.args.levels.lent 0 (omega arith)))

pub returns-in-Negative : goal.returns-in-Negative
returns-in-Negative c = λ a e. let z = negative_is a (sym c.in-Negative.is ∙ e) in drawn_f c.args.limits c.args.levels.coefficients.now c.args.levels.ends.now a z.0 _ z.1
