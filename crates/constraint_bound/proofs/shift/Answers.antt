-- `constraint_bound::shift` meets its contract: the products fit, and differ by the shift. Assumes nothing.
use Rattle.constraint_bound.proofs.Shifting.{shift_up, shift_down}
use Rattle.constraint_bound.proofs.shift.Goals as goal

pub returns-then-negative : goal.returns-then-negative
returns-then-negative c = rw (c.coefficient_of-coefficient.ensures, c.end_of.ensures, c.if-negative.true) (shift_down c.args.w c.args.lower c.requires)

pub returns : goal.returns
returns c = rw (c.coefficient_of-coefficient.ensures, c.if-negative.false) (shift_up c.args.w c.args.lower c.requires)
