-- `dimacs_reader::read` meets its contract: each byte leads to the state that the machine gives, and each way out gives what the text says. Assumes nothing.
use mathlib.Core.Path.{sym, ap, ◌∙◌}
use native.Mathlib.Omega.{arith}
use Rattle.dimacs_step.specs.View.{view, next}
use Rattle.dimacs_reader.proofs.Loop.{mid_as, mid_on, mid_put, exit_bad, exit_short, exit_room, exit_all}
use Rattle.dimacs_reader.proofs.read.Goals as goal
use Rattle.dimacs_reader.proofs.read.Goals.{in-On, in-Put}

pub returns-in-Bad : goal.returns-in-Bad
returns-in-Bad c = exit_bad c.loop-i.invariant c.loop-i-test.true (sym (ap next c.in-Bad.is) ∙ c.step.ensures) c.fill_from.ensures

pub loop-i-preserved : goal.loop-i-preserved
loop-i-preserved c =
    let m = c.loop-i.invariant in
    let h = c.loop-i-test.true in
    elim c.match-step.branch [
      | in-On w ↦ mid_as w.out-is (ap view w.s-is) w.n-is (mid_on m h _ (sym (ap next w.in-On.is) ∙ c.step.ensures))
      | in-Put w ↦ mid_as (w.out-is ∙ w.store.ensures) (ap view w.s-is) w.n-is (mid_put m h _ _ (sym (ap next w.in-Put.is) ∙ c.step.ensures))
    ]

pub returns-then-not-is_final : goal.returns-then-not-is_final
returns-then-not-is_final c =
    exit_short c.loop-i.invariant (omega arith) (sym c.if-not-is_final.true ∙ c.is_final.ensures) c.fill_from-then-not-is_final.ensures

pub returns-then-out-n : goal.returns-then-out-n
returns-then-out-n c =
    exit_room c.loop-i.invariant (omega arith) (sym c.if-not-is_final.false ∙ c.is_final.ensures) c.if-out-n.true c.fill_from-then-out-n.ensures

pub returns : goal.returns
returns c = exit_all c.loop-i.invariant (omega arith) (sym c.if-not-is_final.false ∙ c.is_final.ensures) c.if-out-n.false c.fill_from-2.ensures
