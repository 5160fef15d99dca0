-- `propagator::look_two` meets its contract: one literal more, twice. Assumes nothing.
use native.Mathlib.Omega.{arith}
use mathlib.Core.Path.{refl}
use Prim.Native.Nat.{◌+◌}
use lib.ListN.{length}
use Rattle.propagator.proofs.Looks.{met_start, met_on, met_neither, first_literal}
use Rattle.propagator.proofs.look_two.Goals as goal

pub meet-found-requires : goal.meet-found-requires
meet-found-requires c = (first_literal (length c.args.bytes.now) c.args.words.now c.args.from 1 c.requires, λ n. absurd (n refl))

pub returns-then-found : goal.returns-then-found
returns-then-found c =
    let bs = c.args.bytes.now in
    let ws = c.args.words.now in
    let from = c.args.from in
    met_neither bs ws from (from + 1) c.meet-found.result
    (met_on bs ws from from 0 (met_start bs ws from) c.meet-found.result (from + 1) (omega arith) (first_literal (length bs) ws from 1 c.requires).0 refl c.meet-found.ensures)
    (from + 2) (omega arith)

pub meet-requires : goal.meet-requires
meet-requires c = (c.requires.each 1 (omega arith), c.meet-found.ensures.1)

pub returns : goal.returns
returns c =
    let bs = c.args.bytes.now in
    let ws = c.args.words.now in
    let from = c.args.from in
    met_on bs ws from (from + 1) c.meet-found.result
    (met_on bs ws from from 0 (met_start bs ws from) c.meet-found.result (from + 1) (omega arith) (first_literal (length bs) ws from 1 c.requires).0 refl c.meet-found.ensures)
    c.meet.result (from + 2) (omega arith) (c.requires.each 1 (omega arith)).0 (omega arith) c.meet.ensures
