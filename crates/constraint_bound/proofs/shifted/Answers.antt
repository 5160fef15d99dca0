-- `constraint_bound::shifted` meets its contract: a plain term adds nothing, any other its shift. Assumes nothing.
use mathlib.Core.Path.{sym, ◌∙◌}
use Rattle.constraint_bound.proofs.Shifting.{shifted_plain}
use Rattle.constraint_bound.proofs.shifted.Goals as goal

pub returns-then-adds_nothing : goal.returns-then-adds_nothing
returns-then-adds_nothing c = let a = c.args in shifted_plain a.bound a.negative a.w a.lower (sym c.adds_nothing.ensures ∙ c.if-adds_nothing.true)
