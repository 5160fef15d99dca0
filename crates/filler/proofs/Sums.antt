-- The sum of domain ends over the records is small. Assumes nothing.
use mathlib.Core.List.{List}
use Prim.Native.Nat.{ℕ, ◌≤◌}
use native.Mathlib.Omega.{arith}
use Rattle.word.specs.Record.{labelled}
use Rattle.word.proofs.Labels.{labelled_length}
use Rattle.linker.specs.Sum.{end_sum, Countable}
use Rattle.linker.proofs.Laws.{sum_fits}

pub sum_small : {ds t : List ℕ} {count : ℕ} → Countable ds t count → end_sum ds (labelled t count) ≤ 983040
sum_small {ds} {t} {count} C = omega (arith, sum_fits ds (labelled t count) C.ends C.levels, labelled_length t count C.room, C.few)
