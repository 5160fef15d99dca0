-- `constraint_words::check_each` meets its contract: each call tells what the check says of its word. Assumes nothing.
use mathlib.Core.Path.{sym, ◌∙◌}
use native.Mathlib.Omega.{arith}
use lib.ListN.{get_or}
use Rattle.std.proofs.lemmas.Result.{err_from_is_err_and}
use Rattle.constraint_words.proofs.Checking.{each_passed, each_refused, each_end}
use Rattle.constraint_words.proofs.check_each.Goals as goal

pub returns-in_err-check : goal.returns-in_err-check
returns-in_err-check g c =
    let p = err_from_is_err_and c.from_residual.result c.from_residual.ensures.1 in
    rw (p.1, p.2) (λ told t.
    let ws = c.args.words.now in
    let says = t c.words.at (get_or ws c.words.at 0) _ (omega arith) (omega (arith, c.type_inv.words c.words.at)) c.in_err-check.ensures in
    sym (c.words.invariant told t ∙ each_refused told ws c.words.at _ (omega arith) (sym says)))

pub words-preserved : goal.words-preserved
words-preserved g c = λ told t.
    let ws = c.args.words.now in
    let says = t c.words.at (get_or ws c.words.at 0) _ (omega arith) (omega (arith, c.type_inv.words c.words.at)) c.in_ok-check.ensures in
    c.words.invariant told t ∙ each_passed told ws c.words.at (omega arith) (sym says)

pub returns : goal.returns
returns g c = λ told t. sym (c.words.invariant told t ∙ each_end told c.args.words.now c.words.at (omega arith))
