-- `clause_writer::forward` meets its contract: each level adds its order Booleans. Assumes nothing.
use Prim.Native.Nat.{◌+◌, ◌-◌, ◌<◌}
use native.Mathlib.Omega.{arith}
use lib.ListN.{drop, length-take}
use Rattle.std.proofs.lemmas.List.{get_or-take, get_or-drop}
use Rattle.clause_writer.proofs.Turns.{before_next, before_fits}
use Rattle.clause_writer.proofs.forward.Goals as goal

pub overflow_add-earlier : goal.overflow_add-earlier
overflow_add-earlier c =
    let ends = c.args.ends.now in
    let n = c.args.level - c.args.from in
    let i = c.loop-end.end-index in
    let h : i < n = omega (arith, length-take n (drop c.args.from ends)) in
    omega (arith, get_or-take n (drop c.args.from ends) i 0 h, get_or-drop c.args.from ends i 0, before_fits ends (c.args.from + i) (omega arith))

pub loop-end-preserved : goal.loop-end-preserved
loop-end-preserved c =
    let ends = c.args.ends.now in
    let n = c.args.level - c.args.from in
    let i = c.loop-end.end-index in
    let h : i < n = omega (arith, length-take n (drop c.args.from ends)) in
    grind (arith, get_or-take n (drop c.args.from ends) i 0 h, get_or-drop c.args.from ends i 0, before_next ends (c.args.from + i) (omega arith))
