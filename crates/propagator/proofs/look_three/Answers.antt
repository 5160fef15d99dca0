-- `propagator::look_three` meets its contract: one literal more after two. Assumes nothing.
use native.Mathlib.Omega.{arith}
use Prim.Native.Nat.{◌+◌}
use Rattle.propagator.proofs.Looks.{met_on, met_neither}
use Rattle.propagator.proofs.look_three.Goals as goal

pub look_two-found-requires : goal.look_two-found-requires
look_two-found-requires c = record { within = omega arith; each = λ j h. c.requires.each j (omega arith) }

pub returns-then-found : goal.returns-then-found
returns-then-found c =
    met_neither c.args.bytes.now c.args.words.now c.args.from (c.args.from + 2) c.look_two-found.result c.look_two-found.ensures
    (c.args.from + 3) (omega arith)

pub meet-requires : goal.meet-requires
meet-requires c = (c.requires.each 2 (omega arith), c.look_two-found.ensures.literal)

pub returns : goal.returns
returns c =
    met_on c.args.bytes.now c.args.words.now c.args.from (c.args.from + 2) c.look_two-found.result c.look_two-found.ensures
    c.meet.result (c.args.from + 3) (omega arith) (c.requires.each 2 (omega arith)).0 (omega arith) c.meet.ensures
