-- `printout_lines::put_refusal` meets its contract: its pieces stand one behind the other, and the number and the place are the table's. Assumes nothing.
use mathlib.Core.Path.{ap}
use Rattle.text.specs.Decimal.{decimal}
use Rattle.text.proofs.Cuts.{wrote_as, wrote_then}
use Rattle.printout_lines.proofs.put_refusal.Goals as goal

pub returns : goal.returns
returns c =
    let number = wrote_as (ap decimal c.number.ensures) c.put_number-b.ensures in
    let place = wrote_as (ap decimal c.place.ensures) c.put_number-d.ensures in
    wrote_then (wrote_then (wrote_then (wrote_then c.put_all-a.ensures number) c.put_all-c.ensures) place) c.put.ensures
