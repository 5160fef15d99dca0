-- `marker::mark` meets its contract: refused words are not judged, and words that pass are judged by the constraint that they state. Assumes nothing.
use mathlib.Core.Path.{sym, ◌∙◌}
use Rattle.std.proofs.lemmas.Result.{err_from_is_err_and}
use Rattle.constraint_words.proofs.Limits.{checked_as}
use Rattle.marker.proofs.Stated.{mark_refused, mark_passed}
use Rattle.marker.proofs.mark.Goals as goal

pub returns-in_err-check_by : goal.returns-in_err-check_by
returns-in_err-check_by c =
    let p = err_from_is_err_and c.from_residual.result c.from_residual.ensures.1 in
    rw (p.1, p.2) (mark_refused _ _ _ _ (sym c.in_err-check_by.was ∙ checked_as _ _ _ _ c.main_limits.ensures c.check_by.ensures))

pub returns : goal.returns
returns c =
    let ok = sym (checked_as _ _ _ _ c.main_limits.ensures c.check_by.ensures) ∙ c.in_ok-check_by.was in
    mark_passed _ _ _ ok _ (c.mark_record.ensures _ ok c.make.ensures)
