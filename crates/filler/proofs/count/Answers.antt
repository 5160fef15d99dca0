-- `filler::count` meets its contract: the sum over the records gives both counts. Assumes nothing.
use Prim.Native.Nat.{ℕ, ◌+◌, ◌*◌, ◌-◌}
use native.Mathlib.Omega.{arith}
use Rattle.filler.specs.declared.Counts.{Counts}
use Rattle.filler.proofs.Sums.{sum_small}
use Rattle.filler.proofs.count.Goals as goal

abbrev counts : ℕ → ℕ → ℕ → ℕ → Counts
counts n D terms sum = record { nodes = n; edges = n + sum; words = 3 * (D - terms) + 6 + 3 * n + 4 * sum }

pub overflow_add-result : goal.overflow_add-result
overflow_add-result c = omega (arith, c.sum_ends-sum.ensures, sum_small c.requires.countable, c.requires.countable.few)

pub overflow_mul-result-3 : goal.overflow_mul-result-3
overflow_mul-result-3 c = omega (arith, c.sum_ends-sum.ensures, sum_small c.requires.countable, c.requires.countable.few)

pub overflow_add-result-4 : goal.overflow_add-result-4
overflow_add-result-4 c = omega (arith, c.sum_ends-sum.ensures, sum_small c.requires.countable, c.requires.countable.few)
