-- `encoder::encode_with` meets its contract: refused words touch nothing, and the others are encoded. Assumes nothing.
use mathlib.Core.Path.{sym, ◌∙◌}
use Rattle.std.proofs.lemmas.Result.{err_from_is_err_and}
use Rattle.encoder.proofs.Words.{promise_refused}
use Rattle.encoder.proofs.encode_with.Goals as goal

pub returns-in_err-check_by : goal.returns-in_err-check_by
returns-in_err-check_by c =
    let p = err_from_is_err_and c.from_residual.result c.from_residual.ensures.1 in
    rw (p.1, p.2) (promise_refused c.args.limits c.args.words.now _ _ _ _ (sym c.in_err-check_by.was ∙ c.check_by.ensures))
