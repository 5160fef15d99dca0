-- `propagator::meet` meets its contract, case by case. Assumes nothing.
use native.Mathlib.Omega.{arith}
use lib.ListN.{length}
use Rattle.propagator.proofs.Meets.{nothing_met, meet_true, meet_false, meet_first, meet_same, meet_second}
use Rattle.propagator.proofs.meet.Goals as goal

pub returns-then-v-true_byte : goal.returns-then-v-true_byte
returns-then-v-true_byte c =
    let bs = c.args.bytes.now in
    let b = c.boolean_of-b.result.0 in (
      meet_true bs c.args.found c.args.w b c.requires.0 c.requires.1 c.boolean_of-b.ensures (omega (arith, c.true_byte.ensures)),
      nothing_met (length bs),
    )

pub returns-then-v-lt2 : goal.returns-then-v-lt2
returns-then-v-lt2 c =
    let bs = c.args.bytes.now in
    let b = c.boolean_of-b.result.0 in (
      meet_false bs c.args.found c.args.w b c.requires.0 c.requires.1 c.boolean_of-b.ensures (λ e. omega (arith, e, c.true_byte.ensures)) (omega arith),
      c.requires.1,
    )

pub returns-then-found-eq0 : goal.returns-then-found-eq0
returns-then-found-eq0 c =
    let bs = c.args.bytes.now in
    let b = c.boolean_of-b.result.0 in (
      meet_first bs c.args.found c.args.w b c.requires.0 c.requires.1 c.boolean_of-b.ensures (omega arith) (omega arith),
      λ d e. c.requires.0,
    )

pub returns-then-found-w : goal.returns-then-found-w
returns-then-found-w c =
    let bs = c.args.bytes.now in
    let b = c.boolean_of-b.result.0 in (
      meet_same bs c.args.found c.args.w b c.requires.0 c.requires.1 c.boolean_of-b.ensures (omega arith) (omega arith),
      c.requires.1,
    )

pub returns-else-found-w : goal.returns-else-found-w
returns-else-found-w c =
    let bs = c.args.bytes.now in
    let b = c.boolean_of-b.result.0 in (
      meet_second bs c.args.found c.args.w b c.requires.0 c.requires.1 c.boolean_of-b.ensures (omega arith) (λ e. omega (arith, e)) (λ e. omega (arith, e)),
      nothing_met (length bs),
    )
