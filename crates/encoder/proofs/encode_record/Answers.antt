-- `encoder::encode_record` meets its contract: the record's levels are those of the constraint that the words state. Assumes nothing.
use mathlib.Core.Path.{sym, ap, ◌∙◌}
use Rattle.limits.specs.Limits.{main_limits}
use Rattle.diagram.specs.Constraint.{levels}
use Rattle.encoding.specs.Boolean.{orders}
use Rattle.constraint_words.specs.Reading.{stated}
use Rattle.constraint_words.proofs.Laws.{checked_within}
use Rattle.constraint.proofs.Arrays.{bound_held, orders_held}
use Rattle.encoder.proofs.Words.{answer_stated}
use Rattle.encoder.proofs.encode_record.Goals as goal

pub levels-requires : goal.levels-requires
levels-requires c = (stated c.requires.0, checked_within main_limits c.requires.0 c.requires.1, c.requires.2)

pub encode_levels-requires : goal.encode_levels-requires
encode_levels-requires c =
    let k = stated c.requires.0 in
    let within = checked_within main_limits c.requires.0 c.requires.1 in
    orders_held k within c.args.c c.requires.2 ∙ ap (λ ts. orders (levels ts)) (sym (c.levels.ensures k c.requires.2 within))

pub returns-clause-answered : goal.returns-clause-answered
returns-clause-answered c =
    λ ws ok is.
    let within = checked_within main_limits ws ok in
    answer_stated ws c.args.limits _ _ (c.levels.ensures (stated ws) is within) _ _ _ _ _ _ _
    (c.encode_levels.ensures.answered _ (bound_held (stated ws) within c.args.c is))
