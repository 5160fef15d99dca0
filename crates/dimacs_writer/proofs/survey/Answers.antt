-- `dimacs_writer::survey` meets its contract: each word is counted in its turn. Assumes nothing.
use native.Mathlib.Omega.{arith}
use Rattle.dimacs_writer.proofs.Turns.{survey_end, survey_literal, survey_all}
use Rattle.dimacs_writer.proofs.survey.Goals as goal
use Rattle.dimacs_writer.proofs.survey.Goals.{then-kind_of-eq3, else-kind_of-eq3}

pub loop-w-preserved : goal.loop-w-preserved
loop-w-preserved c =
    let turn = c.loop-w-test.true in
    elim c.if-kind_of-eq3.branch [
      | then-kind_of-eq3 w ↦ survey_end turn c.loop-w.invariant (omega arith) w.most-is w.clauses-is
      | else-kind_of-eq3 w ↦ survey_literal turn c.loop-w.invariant (λ e. omega (arith, e)) (grind arith) w.clauses-is
    ]

pub returns : goal.returns
returns c = let e = survey_all (omega arith) c.loop-w.invariant in λ i. record { most = e.0 i; clauses = e.1 i }
