-- `constraint::Constraint::make` meets its contract: plain words have a loop of their own. Assumes nothing.
use mathlib.Core.Path.{sym, ◌∙◌}
use Rattle.constraint.proofs.Constraint.make.Goals as goal

pub make_plain-requires : goal.make_plain-requires
make_plain-requires c = (c.requires.0, sym c.requires.1 ∙ c.if-plain.true)
