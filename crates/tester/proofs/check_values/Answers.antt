-- `tester::check_values` meets its contract: the bytes before the place that is found pass, and the one there does not. Assumes nothing.
use borrow.Author.Tests.{tests}
use Rattle.std.proofs.Common.{rules, ◌≤◌, ◌<◌, zero-le}
use Rattle.std.proofs.lemmas.Iterator.{YieldsList-from_slice, IsFirst-from_position}
use Rattle.tester.proofs.Checks.{value_bad, values_good}
use Rattle.tester.proofs.check_values.Goals as goal

pub returns-in-None : goal.returns-in-None
returns-in-None c =
    let most = c.args.most in
    let all = IsFirst-from_position _ _ _ (λ x. most < x) (λ x. x ≤ most) c.in-None.ensures.ran (YieldsList-from_slice c.args.values.now cc) (λ x q k. search (rules, tests)) (λ x q k. search (rules, tests)) in
    values_good most c.args.values.now (λ k l. all k 0 zero-le l)

pub returns-in-Some : goal.returns-in-Some
returns-in-Some c =
    let most = c.args.most in
    let first = IsFirst-from_position _ _ _ (λ x. most < x) (λ x. x ≤ most) c.in-Some.ensures.ran (YieldsList-from_slice c.args.values.now cc) (λ x q k. search (rules, tests)) (λ x q k. search (rules, tests)) in
    value_bad most c.args.values.now c.in-Some.at first.0 (first.1 0) (λ k l. first.2 k 0 zero-le l)
