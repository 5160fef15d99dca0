-- `text::digits`, which calls itself for the tenth, meets its contract: a number has one digit more than its tenth. The measure is the number. Assumes nothing.
use native.Mathlib.Omega.{arith}
use Prim.Native.Nat.{◌/◌}
use Rattle.text.proofs.Decimals.{digits_one, digits_more, digits_few}
use Rattle.text.proofs.+digits.Goals as goal

pub returns-then-n-lt10 : goal.returns-then-n-lt10
returns-then-n-lt10 t c = digits_one c.args.n (omega arith)

pub digits-requires : goal.digits-requires
digits-requires t c = (omega arith, tt)

pub overflow_add-result : goal.overflow_add-result
overflow_add-result t c = omega (arith, c.digits.ensures, digits_few 19 (c.args.n / 10) (omega arith))

pub returns : goal.returns
returns t c = omega (arith, c.digits.ensures, digits_more c.args.n (omega arith))
