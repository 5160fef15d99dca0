-- `linker::clear_entering` meets its contract: before the loop nothing is counted at no node. Assumes nothing.
use mathlib.Core.Path.{refl}
use Rattle.linker.specs.Counting.{unentered}
use Rattle.linker.proofs.Counting.{none_next}
use Rattle.linker.proofs.clear_entering.Goals as goal

pub loop-n-init : goal.loop-n-init
unfolding unentered
loop-n-init c = refl

pub loop-n-preserved : goal.loop-n-preserved
loop-n-preserved c = none_next c.args.table.now c.loop-n.table c.loop-n.n c.loop-n.invariant
