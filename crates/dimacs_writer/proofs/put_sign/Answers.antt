-- `dimacs_writer::put_sign` meets its contract, by the two cases. Assumes nothing.
use mathlib.Core.Path.{sym, ap}
use mathlib.Core.Bool.{Bool, not}
use Rattle.dimacs_text.specs.Text.{sign}
use Rattle.text.proofs.Cuts.{wrote_as, wrote_none}
use Rattle.dimacs_writer.proofs.put_sign.Goals as goal

pub returns : goal.returns
returns c = wrote_as (ap (λ (b : Bool). sign (not b)) (sym c.if-negated.false)) (wrote_none _ _)
