-- `dimacs_writer::put_word` meets its contract: an end word's two bytes, or the pieces of a literal, one behind the other. Assumes nothing.
use native.Mathlib.Omega.{arith}
use mathlib.Core.Path.{ap}
use mathlib.Core.Bool.{Bool, not}
use Rattle.text.specs.Decimal.{decimal}
use Rattle.text.proofs.Cuts.{wrote_as, wrote_then}
use Rattle.dimacs_text.specs.Text.{sign}
use Rattle.dimacs_writer.proofs.Turns.{word_literal}
use Rattle.dimacs_writer.proofs.put_word.Goals as goal

pub returns : goal.returns
returns c =
    let minus = wrote_as (ap (λ (b : Bool). sign (not b)) c.is_negated.ensures) c.put_sign-a.ensures in
    let number = wrote_as (ap decimal c.boolean_of.ensures) c.put_number-b.ensures in
    let whole = wrote_then (wrote_then minus number) c.put.ensures in
    wrote_as (word_literal c.args.w (λ e. omega (arith, e))) whole
