-- `word::fill_from` meets its contract: at the end the whole part holds the value. Assumes nothing.
use Rattle.std.proofs.Common.{arith, ◌∙◌}
use Rattle.std.proofs.lemmas.List.{length-take-le, length-drop}
use Rattle.word.proofs.Cleared.{filling_ends}
use Rattle.word.proofs.fill_from.Goals as goal

pub returns-after-loop-place : goal.returns-after-loop-place
returns-after-loop-place g c =
    filling_ends c.args.value c.args.from c.args.list.now _ _ c.loop-place.invariant
    (c.loop-place.auto.place-items ∙ length-take-le _ _ (omega (arith, length-drop c.args.from c.args.list.now)))
    (omega (arith, c.loop-place-test.false, c.loop-place.auto.place-items))
