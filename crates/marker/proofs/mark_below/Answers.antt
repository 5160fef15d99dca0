-- `marker::mark_below` meets its contract: no label holds a number below 0. Assumes nothing.
use Rattle.marker.proofs.Judging.{below_none, below_some}
use Rattle.marker.proofs.mark_below.Goals as goal

pub returns-then-table-eq0 : goal.returns-then-table-eq0
returns-then-table-eq0 c = λ ls z es. below_none _ ls z es c.if-table-eq0.true

pub returns : goal.returns
returns c = λ ls z es. below_some _ ls z es c.if-table-eq0.false
