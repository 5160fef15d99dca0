-- `dimacs_writer::put_checked` meets its contract: what the check and the measuring of the text found settles the reply. Assumes nothing.
use mathlib.Core.Path.{sym, ◌∙◌}
use Rattle.dimacs_writer.proofs.Replies.{no_room, whole_size, whole_front, whole_reply}
use Rattle.dimacs_writer.proofs.put_checked.Goals as goal

pub returns-then-not-fits-clause-reply : goal.returns-then-not-fits-clause-reply
returns-then-not-fits-clause-reply c =
    no_room c.args.words.now c.args.out.now c.survey-h.result (sym c.check_list.ensures ∙ c.in_ok-check_list.was) c.survey-h.ensures (sym c.fits.ensures ∙ c.if-not-fits.true)

pub returns-clause-reply : goal.returns-clause-reply
returns-clause-reply c =
    whole_reply c.args.words.now c.args.out.now c.survey-h.result (sym c.check_list.ensures ∙ c.in_ok-check_list.was) c.survey-h.ensures (sym c.fits.ensures ∙ c.if-not-fits.false)
    c.put_list.ensures

pub returns-clause-front : goal.returns-clause-front
returns-clause-front c =
    let ok = sym c.check_list.ensures ∙ c.in_ok-check_list.was in
    let fit = sym c.fits.ensures ∙ c.if-not-fits.false in
    let ws = c.args.words.now in
    (whole_front ws c.args.out.now c.survey-h.result ok c.survey-h.ensures fit c.put_list.ensures, whole_size ws c.args.out.now c.survey-h.result ok c.survey-h.ensures fit c.put_list.ensures)
