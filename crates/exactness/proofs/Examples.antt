-- Exercise R, 2·y₁ + 5·y₂ ≤ 12 with y₁ up to 2 and y₂ up to 3, propagated by computing: order Booleans 1 to 5, T 6, F 7, nodes 8 to 10. Assumes nothing.
use mathlib.Core.Path.{◌≡◌, refl}
use mathlib.Core.List.{List, [], ◌∷◌}
use Prim.Native.Nat.{ℕ}
use lib.IntN.{pos}
use Rattle.diagram.specs.Level.{Level}
use Rattle.diagram.specs.Label.{overlap, label_of}
use Rattle.diagram.specs.Table.{insert, place, add_key, add_row, keys_below, root_keys, edge_to, row, node_of_key, nodes_from, table, root}
use Rattle.diagram.specs.Constraint.{levels}
use Rattle.encoding.specs.Pattern.{pattern}
use Rattle.clause.specs.Meaning.{Clause}
use Rattle.propagation.specs.Propagated.{status_from, Outcome, conflict, reached, pass, passes, propagated}

abbrev levels_r : List Level
levels_r = levels (record { coef = 2; end = 2 } ∷ record { coef = 5; end = 3 } ∷ [])

abbrev clauses_r : List Clause
clauses_r = pattern levels_r (root levels_r (pos 12)) (table levels_r (pos 12))

-- What is reached from bytes in which just the given order Booleans are fixed.
abbrev from : ℕ → ℕ → ℕ → ℕ → ℕ → Outcome
from a b c d e = propagated clauses_r (a ∷ b ∷ c ∷ d ∷ e ∷ 2 ∷ 2 ∷ 2 ∷ 2 ∷ 2 ∷ [])

-- Nothing fixed; Boolean 4 false; Boolean 5 false; Booleans 1, 2 and 4 false.
pub four_r : from 2 2 2 2 2 ∷ from 2 2 2 0 2 ∷ from 2 2 2 2 0 ∷ from 0 0 2 0 2 ∷ []
    ≡ reached (2 ∷ 2 ∷ 2 ∷ 2 ∷ 1 ∷ 1 ∷ 0 ∷ 1 ∷ 2 ∷ 1 ∷ [])
    ∷ reached (2 ∷ 1 ∷ 0 ∷ 0 ∷ 1 ∷ 1 ∷ 0 ∷ 1 ∷ 0 ∷ 1 ∷ [])
    ∷ conflict
    ∷ conflict
    ∷ []
unfolding propagated passes pass status_from table root root_keys nodes_from node_of_key row edge_to keys_below add_row add_key place insert label_of overlap
four_r = refl
