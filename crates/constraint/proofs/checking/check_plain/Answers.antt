-- `constraint::checking::check_plain` meets its contract: of the checks 3, 4 and 5 are left. Assumes nothing.
use mathlib.Core.Path.{◌≡◌, sym, ◌∙◌}
use lib.ListN.{drop}
use Rattle.std.proofs.Common.{rules}
use Rattle.std.proofs.lemmas.Result.{err_from_is_err_and}
use Rattle.constraint_words.specs.Reading.{each_from, term_checked}
use Rattle.constraint_words.proofs.Plain.{plain_3, plain_terms}
use Rattle.constraint.proofs.checking.check_plain.Goals as goal

pub returns-in_err-check_count : goal.returns-in_err-check_count
returns-in_err-check_count c =
    let p = err_from_is_err_and c.from_residual.result c.from_residual.ensures.1 in
    rw (p.1, p.2) (sym (plain_3 _ c.requires.1 _ c.requires.0 _ (sym c.check_count.ensures ∙ c.in_err-check_count.was)))

pub returns : goal.returns
returns c =
    let each : c.check_each.result ≡ each_from term_checked 1 (drop 1 c.args.words.now) = search rules in
    each ∙ sym (plain_terms _ c.requires.1 _ c.requires.0 (sym c.check_count.ensures ∙ c.in_ok-check_count.was))
