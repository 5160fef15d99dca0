-- `pongilad::pongilad_encode` meets its contract: refused words touch nothing, and the others are encoded, under the main limits. Assumes nothing.
use mathlib.Core.Path.{sym, ◌∙◌}
use Rattle.encoder.proofs.Words.{promise_refused, promise_as}
use Rattle.pongilad.proofs.Laws.{encodes}
use Rattle.pongilad.proofs.pongilad_encode.Goals as goal

pub returns-in-Err : goal.returns-in-Err
returns-in-Err c =
    encodes _ _ _ _ _ _ _ _ _ _ c.from.ensures
    (promise_as _ _ _ _ _ _ _ _ _ _ c.main_limits-limits.ensures
    (promise_refused _ c.args.words.now _ _ _ _ (sym c.in-Err.is ∙ c.check_by.ensures)))
