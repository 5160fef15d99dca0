-- `text::put_number`, which calls itself for the tenth, meets its contract: the last digit stands behind those of the tenth. The measure is the number.
-- Assumes nothing.
use native.Mathlib.Omega.{arith}
use mathlib.Core.Path.{sym}
use Rattle.text.proofs.Cuts.{wrote_as, wrote_then}
use Rattle.text.proofs.Decimals.{decimal_one, decimal_more}
use Rattle.text.proofs.+put_number.Goals as goal

pub returns-then-n-lt10 : goal.returns-then-n-lt10
returns-then-n-lt10 t c = wrote_as (sym (decimal_one c.args.n (omega arith))) c.put.ensures

pub put_number-at-requires : goal.put_number-at-requires
put_number-at-requires t c = (omega arith, tt)

pub returns : goal.returns
returns t c =
    let n = c.args.n in
    wrote_as (sym (decimal_more n (omega arith))) (wrote_then c.put_number-at.ensures c.put-2.ensures)
