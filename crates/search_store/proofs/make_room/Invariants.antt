-- `search_store::make_room` meets its contract. The loop's invariant: the labels from i on are moved. Assumes nothing.
use Rattle.std.proofs.Common.{◌≤◌}
use Rattle.search_store.specs.Stored.{Raised}
use Rattle.search_store.proofs.make_room.Given as goal

abbrev pub invariant-loop-i : goal.invariant-loop-i
invariant-loop-i l = (l.p ≤ l.i) × Raised l.initial.table l.i l.count l.table
