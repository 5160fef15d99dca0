-- `tester::check_list` meets its contract: each word goes on, or is refused, as the definition says of it. Assumes nothing.
use Rattle.std.proofs.Common.{◌≡◌, sym, ap, ◌∙◌, length, arith, Err}
use Rattle.refusal.specs.declared.Refusal.TheVariants.{OpenClause}
use Rattle.tester.proofs.Checks.{end_good, end_bad, kind_bad, literal_zero, literal_beyond, literal_good, words_good, words_bad}
use Rattle.tester.proofs.check_list.Goals as goal
use Rattle.tester.proofs.check_list.Goals.{then-b-eq0-via-then-b-eq0, then-b-eq0-via-else-b-eq0+then-known-b}

pub returns-then-payload_of-count : goal.returns-then-payload_of-count
returns-then-payload_of-count c =
    sym (c.loop-at.invariant.1 ∙ end_bad c.args.known _ c.loop-at.at c.loop-at.count (omega arith) (omega arith) (λ e. omega (arith, e)))

pub loop-at-preserved-then-k-eq3 : goal.loop-at-preserved-then-k-eq3
loop-at-preserved-then-k-eq3 c =
    (omega arith, c.loop-at.invariant.1 ∙ end_good c.args.known _ c.loop-at.at c.loop-at.count (omega arith) (omega arith) (omega arith))

pub returns-then-k-ne2 : goal.returns-then-k-ne2
returns-then-k-ne2 c =
    sym (c.loop-at.invariant.1 ∙ kind_bad c.args.known _ c.loop-at.at c.loop-at.count (omega arith) (λ e. omega (arith, e)) (λ e. omega (arith, e)))

pub returns-then-b-eq0 : goal.returns-then-b-eq0
returns-then-b-eq0 c =
    elim c.then-b-eq0.branch [
      | then-b-eq0-via-then-b-eq0 w ↦ sym
          (c.loop-at.invariant.1 ∙ literal_zero c.args.known _ c.loop-at.at c.loop-at.count (omega arith) (omega arith) (omega (arith, w.if-b-eq0.true)))
      | then-b-eq0-via-else-b-eq0+then-known-b w ↦ sym
          (c.loop-at.invariant.1 ∙ literal_beyond c.args.known _ c.loop-at.at c.loop-at.count (omega arith) (omega arith) (omega (arith, w.if-known-b.true)))
    ]

pub loop-at-preserved : goal.loop-at-preserved
loop-at-preserved c =
    (omega arith, c.loop-at.invariant.1 ∙ literal_good c.args.known _ c.loop-at.at c.loop-at.count (omega arith) (omega arith) (omega arith) (omega arith))

pub returns-then-count-eq0 : goal.returns-then-count-eq0
returns-then-count-eq0 c = sym (c.loop-at.invariant.1 ∙ words_good c.args.known _ c.loop-at.at c.loop-at.count (omega arith) (omega arith))

pub returns-else-count-eq0 : goal.returns-else-count-eq0
returns-else-count-eq0 c =
    let ends : c.loop-at.at ≡ length c.args.words.now = omega arith in
    sym (c.loop-at.invariant.1 ∙ words_bad c.args.known _ c.loop-at.at c.loop-at.count (omega arith) (λ e. omega (arith, e)) ∙ ap (λ at. Err (OpenClause at)) ends)
