-- `text::put_all` meets its contract. Assumes nothing.
use mathlib.Core.Path.{refl}
use native.Mathlib.Omega.{arith}
use lib.ListN.{drop_of_length-le}
use Rattle.text.proofs.Cuts.{left_all, left_less, left_none}
use Rattle.text.proofs.Decimals.{byte_turn}
use Rattle.text.proofs.put_all.Goals as goal

pub loop-byte-init : goal.loop-byte-init
loop-byte-init c = left_all _ _ _ _ refl

pub loop-byte-preserved : goal.loop-byte-preserved
loop-byte-preserved c = left_less (byte_turn c.args.text.now c.loop-byte.byte-index (omega arith)) c.loop-byte.invariant c.put-at.ensures

pub returns : goal.returns
returns c = left_none (drop_of_length-le c.args.text.now {i = c.loop-byte.byte-index} (omega arith)) c.loop-byte.invariant
