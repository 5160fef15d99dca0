-- `tester::past_end` meets its contract: an end word is passed and ends the search, any other word is passed, and behind the list there is none. Assumes nothing.
use Rattle.std.proofs.Common.{◌∙◌, sym, arith}
use Rattle.tester.proofs.Scan.{past_here, past_on, past_none}
use Rattle.tester.proofs.past_end.Goals as goal

pub returns-then-w-ge-LEAST_END : goal.returns-then-w-ge-LEAST_END
returns-then-w-ge-LEAST_END c =
    let at = c.skip.at in
    sym (c.skip.invariant.2 ∙ past_here c.args.words.now at (omega arith) (omega (arith, c.type_inv.words at)))

pub skip-preserved : goal.skip-preserved
skip-preserved c =
    (omega arith, omega arith, c.skip.invariant.2 ∙ past_on c.args.words.now c.skip.at (omega arith) (λ e. omega (arith, e)))

pub returns : goal.returns
returns c = sym (c.skip.invariant.2 ∙ past_none c.args.words.now c.skip.at (omega arith))
