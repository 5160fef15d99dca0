-- `search_runs::merging::merge_back` meets its contract. The invariant of both loops: what is left to merge, followed by what is stored, is the merge of the
-- runs. Each turn has one record less to merge, of the second run in the outer loop and of the first in the inner. Assumes nothing.
use Prim.Native.Nat.{ℕ, ◌+◌, ◌≤◌}
use mathlib.Core.Path.{◌≡◌}
use mathlib.Core.List.{List}
use lib.ListN.{length}
use Rattle.search_runs.proofs.Turns.{Inv}
use Rattle.search_runs.proofs.merging.merge_back.Given as goal

abbrev pub invariant-loop-i : goal.invariant-loop-i
invariant-loop-i l = (l.i ≤ l.initial.i) × (length l.table ≡ length l.initial.table) × ((t₀ : List ℕ) → Inv t₀ l.s l.main l.count l.initial.table l.initial.i (l.j + 1) → Inv t₀ l.s l.main l.count l.table l.i (l.j + 1))

abbrev pub decreases-loop-i : goal.decreases-loop-i
decreases-loop-i l = l.i

abbrev pub invariant-loop-j : goal.invariant-loop-j
invariant-loop-j l = Inv l.initial.table l.s l.main l.count l.table l.i l.j
