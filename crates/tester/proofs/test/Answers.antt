-- `tester::test` meets its contract: the first check that refuses is the reply, and where both pass the scan is. Assumes nothing.
use Rattle.std.proofs.Common.{sym, ap, ◌∙◌, Ok}
use Rattle.std.proofs.lemmas.Result.{err_from_is_err_and}
use Rattle.word.proofs.Giving.{gives}
use Rattle.tester.specs.Tested.{tested_values}
use Rattle.tester.proofs.Laws.{values_refuse, list_refuses, both_pass}
use Rattle.tester.proofs.test.Goals as goal

pub returns-in_err-check_values : goal.returns-in_err-check_values
returns-in_err-check_values c =
    let p = err_from_is_err_and c.from_residual.result c.from_residual.ensures.1 in
    rw (p.1, p.2) (gives tested_values (values_refuse c.args.values.now c.args.words.now _ (sym c.check_values.ensures ∙ c.in_err-check_values.was)))

pub returns-in_err-check_list : goal.returns-in_err-check_list
returns-in_err-check_list c =
    let p = err_from_is_err_and c.from_residual-in_err-check_list.result c.from_residual-in_err-check_list.ensures.1 in
    rw (p.1, p.2)
    (gives tested_values
    (list_refuses
    c.args.values.now
    c.args.words.now
    _
    (sym c.check_values.ensures ∙ c.in_ok-check_values.was)
    (sym c.check_list.ensures ∙ c.in_err-check_list.was)))

pub returns : goal.returns
returns c =
    gives tested_values
    (ap Ok c.scan_list.ensures
    ∙ both_pass
    c.args.values.now
    c.args.words.now
    (sym c.check_values.ensures ∙ c.in_ok-check_values.was)
    (sym c.check_list.ensures ∙ c.in_ok-check_list.was))
