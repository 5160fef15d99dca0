-- `linker::sum_ends` meets its contract: each record is of a level with a domain end within the limit. Assumes nothing.
use native.Mathlib.Omega.{arith}
use Rattle.linker.proofs.Turns.{one_end, sum_turn, sum_end}
use Rattle.linker.proofs.sum_ends.Goals as goal

pub overflow_sub-i : goal.overflow_sub-i
overflow_sub-i c = let o = one_end c.requires c.loop-k-test.true in omega arith

pub bounds-ends-i : goal.bounds-ends-i
bounds-ends-i c = let o = one_end c.requires c.loop-k-test.true in omega arith

pub loop-k-preserved : goal.loop-k-preserved
loop-k-preserved c =
    let h = c.loop-k-test.true in
    let o = one_end c.requires h in
    (omega arith, omega (arith, sum_turn c.args.table.now c.args.count c.requires.room c.loop-k.k h c.args.ends.now))

pub returns : goal.returns
returns c = omega (arith, sum_end c.args.ends.now c.args.table.now c.args.count c.loop-k.k c.requires.room c.loop-k-test.false)
