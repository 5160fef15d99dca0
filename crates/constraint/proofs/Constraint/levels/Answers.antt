-- `constraint::Constraint::levels` meets its contract: the arrays of a record are padded to their sizes, and their first places are the slices of its constraint. Assumes nothing.
use Rattle.constraint.proofs.Arrays.{arrays, terms_held, terms_few}
use Rattle.constraint.proofs.Constraint.levels.Goals as goal

pub shared_ref_as_front-result : goal.shared_ref_as_front-result
shared_ref_as_front-result c = terms_few c.requires.0 c.requires.1 c.args.self.now c.requires.2

pub invariant_of-result : goal.invariant_of-result
invariant_of-result c = record { lent = (arrays c.requires.0 c.requires.1 c.args.self.now c.requires.2).lent }

pub returns : goal.returns
returns c = λ k is within. terms_held k within c.args.self.now is
