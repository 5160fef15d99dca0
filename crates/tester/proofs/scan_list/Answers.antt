-- `tester::scan_list` meets its contract: the word that is found is the first from the clause's beginning on that ends it or is a true literal. Assumes nothing.
use lib.Seq.{take_all}
use borrow.Author.Tests.{tests}
use Rattle.std.proofs.Common.{rules, ◌+◌, ◌-◌, ◌<◌, sym, ap, ◌∙◌, zero-le, arith, length, drop, length-drop}
use Rattle.std.proofs.lemmas.Iterator.{YieldsList-from_slice, IsFirst-from_position}
use Rattle.tester.specs.Tested.{value_in}
use Rattle.tester.proofs.Scan.{Decides, Lacks, past_drop, stops_lacking, stops_true, stops_nowhere}
use Rattle.tester.proofs.scan_list.Goals as goal

pub returns : goal.returns
returns c =
    let v = value_in c.args.values.now in
    let ws = c.args.words.now in
    let at = c.loop-n.at in
    let rest = drop at ws in
    let whole = c.iter.ensures.rest ∙ take_all (length ws - at) rest (omega (arith, length-drop at ws)) in
    let all = IsFirst-from_position _ _ _ (Decides v c.loop-n.clause ws) (Lacks v c.loop-n.clause ws) c.in_default.ensures.ran (YieldsList-from_slice rest whole) (λ x q k. search (rules, tests)) (λ x q k. search (rules, tests)) in
    sym (c.loop-n.invariant.2 ∙ stops_nowhere v c.loop-n.clause ws at c.loop-n.invariant.0 (λ k l. all k 0 zero-le l))

pub returns-then-words-at-ge-LEAST_END : goal.returns-then-words-at-ge-LEAST_END
returns-then-words-at-ge-LEAST_END c =
    let v = value_in c.args.values.now in
    let ws = c.args.words.now in
    let at = c.loop-n.at in
    let n = c.in-Some.n in
    let rest = drop at ws in
    let whole = c.iter.ensures.rest ∙ take_all (length ws - at) rest (omega (arith, length-drop at ws)) in
    let first = IsFirst-from_position _ _ _ (Decides v c.loop-n.clause ws) (Lacks v c.loop-n.clause ws) c.in-Some.ensures.ran (YieldsList-from_slice rest whole) (λ x q k. search (rules, tests)) (λ x q k. search (rules, tests)) in
    sym (c.loop-n.invariant.2 ∙ stops_lacking v c.loop-n.clause ws at n (omega (arith, first.0, length-drop at ws)) (λ k l. first.2 k 0 zero-le l) (omega (arith, c.type_inv.words (at + n))))

pub loop-n-smaller : goal.loop-n-smaller
loop-n-smaller c =
    let ws = c.args.words.now in
    let at = c.loop-n.at in
    let n = c.in-Some.n in
    let rest = drop at ws in
    let whole = c.iter.ensures.rest ∙ take_all (length ws - at) rest (omega (arith, length-drop at ws)) in
    let inside : at + n < length ws = omega (arith, c.in-Some.ensures.bound, ap length whole, length-drop at ws) in
    omega (arith, (past_drop ws (at + n + 1) (omega (arith, inside))).0, c.past_end-at.ensures, inside)

pub loop-n-preserved : goal.loop-n-preserved
loop-n-preserved c =
    let v = value_in c.args.values.now in
    let ws = c.args.words.now in
    let at = c.loop-n.at in
    let n = c.in-Some.n in
    let rest = drop at ws in
    let whole = c.iter.ensures.rest ∙ take_all (length ws - at) rest (omega (arith, length-drop at ws)) in
    let first = IsFirst-from_position _ _ _ (Decides v c.loop-n.clause ws) (Lacks v c.loop-n.clause ws) c.in-Some.ensures.ran (YieldsList-from_slice rest whole) (λ x q k. search (rules, tests)) (λ x q k. search (rules, tests)) in (
      omega (arith, (past_drop ws (at + n + 1) (omega (arith, first.0, length-drop at ws))).1, c.past_end-at.ensures),
      omega (arith, (past_drop ws (at + n + 1) (omega (arith, first.0, length-drop at ws))).0, c.past_end-at.ensures),
      c.loop-n.invariant.2 ∙ stops_true v c.loop-n.clause ws at n (omega (arith, first.0, length-drop at ws)) (λ k l. first.2 k 0 zero-le l) c.past_end-at.result (first.1 0) (omega arith) c.past_end-at.ensures,
    )
