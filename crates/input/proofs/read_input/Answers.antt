-- `input::read_input` meets its contract: what came stands before `at`, which each turn moves on within the list. Assumes nothing.
use Rattle.std.proofs.Common.{rules}
use Rattle.input.proofs.Reading.{Consumes-read}
use Rattle.input.proofs.read_input.Goals as goal

pub loop-at-preserved : goal.loop-at-preserved
loop-at-preserved g c =
    (search rules, Consumes-read _ _ _ c.loop-at.into c.read.new.buf _ c.loop-at.at c.in-Ok.n c.loop-at.invariant.0 c.in-Ok.ensures.bound.0 c.loop-at.invariant.1 c.in-Ok.ensures.bytes.0)
