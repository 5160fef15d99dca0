-- `propagator::settle` meets its contract. The loop's invariant: the bytes hold nothing but what is settled from where it began, and no clause before the place
-- asks for anything; its measure: the open bytes. Assumes nothing.
use Rattle.std.proofs.lemmas.Result.{err_from_is_err_and}
use Rattle.propagator.specs.Pass.{StableBefore, StableBehind}
use Rattle.propagator.proofs.Rounds.{round_start, round_still, round_conflict, round_on}
use Rattle.propagator.proofs.settle.Goals as goal

pub passes-init : goal.passes-init
passes-init c = round_start c.args.words.now c.args.bytes.now c.requires

pub returns-in_err-end : goal.returns-in_err-end
returns-in_err-end c =
    let ws = c.args.words.now in
    let there = c.forward.new.bytes in
    let p = err_from_is_err_and c.from_residual.result c.from_residual.ensures.1 in
    rw p.1 (round_conflict ws c.args.bytes.now c.requires c.passes.bytes c.passes.invariant.0 (StableBehind ws there) there p.0 c.in_err-end.ensures)

pub returns-in_default : goal.returns-in_default
returns-in_default c =
    let ws = c.args.words.now in
    let there = c.forward.new.bytes in
    round_still ws c.args.bytes.now c.requires c.passes.bytes c.passes.invariant.0 (StableBehind ws there) there
    (rw c.in_default.is at c.in_ok-end.ensures)

pub returns-in_err-begin : goal.returns-in_err-begin
returns-in_err-begin c =
    let ws = c.args.words.now in
    let bs = c.args.bytes.now in
    let there = c.forward.new.bytes in
    let back = c.backward.new.bytes in
    let did = rw c.in-Some.is at c.in_ok-end.ensures in
    let p = err_from_is_err_and c.from_residual-in_err-begin.result c.from_residual-in_err-begin.ensures.1 in
    rw p.1
    (round_conflict ws bs c.requires there
    (round_on ws bs c.requires c.passes.bytes c.passes.invariant.0 (StableBehind ws there) there c.in-Some.end did)
    (StableBefore ws back) back p.0 c.in_err-begin.ensures)

pub returns-in_default-2 : goal.returns-in_default-2
returns-in_default-2 c =
    let ws = c.args.words.now in
    let bs = c.args.bytes.now in
    let there = c.forward.new.bytes in
    let back = c.backward.new.bytes in
    let did = rw c.in-Some.is at c.in_ok-end.ensures in
    round_still ws bs c.requires there
    (round_on ws bs c.requires c.passes.bytes c.passes.invariant.0 (StableBehind ws there) there c.in-Some.end did)
    (StableBefore ws back) back (rw c.in_default-2.is at c.in_ok-begin.ensures)

pub passes-preserved : goal.passes-preserved
passes-preserved c =
    let ws = c.args.words.now in
    let bs = c.args.bytes.now in
    let there = c.forward.new.bytes in
    let back = c.backward.new.bytes in
    let did = rw c.in-Some.is at c.in_ok-end.ensures in
    let then = rw c.in-Some-2.is at c.in_ok-begin.ensures in (
      round_on ws bs c.requires there
          (round_on ws bs c.requires c.passes.bytes c.passes.invariant.0 (StableBehind ws there) there c.in-Some.end did)
          (StableBefore ws back) back c.in-Some-2.begin then,
      then.2,
    )
