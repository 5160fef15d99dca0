-- THE ROOT of a bound that is decided, and of one that is not. Assumes nothing.
use mathlib.Core.Path.{◌≡◌, refl, ap, ◌∙◌}
use mathlib.Core.List.{List, [], ◌∷◌}
use Prim.Native.Nat.{ℕ, suc, ◌+◌, ◌≤◌, ◌<◌}
use native.Mathlib.Omega.{arith}
use lib.IntN.{pos, negsuc}
use borrow.Author.Tests.{eq-eqb, lt-ltb, le-ltb}
use Rattle.word.specs.Edge.{F, T, to}
use Rattle.diagram.specs.Level.{Level, R}
use Rattle.diagram.specs.Label.{label}
use Rattle.diagram.specs.Table.{nodes_from, keys_below, insert, place, add_key, root_keys, edge_to, table, root}
use Rattle.diagram.proofs.Follow.{edge_t, edge_to_lem}

-- a decided bound has no nodes
no_nodes : (lev base : ℕ) (ls : List Level) → nodes_from lev base ls [] ≡ []
unfolding nodes_from keys_below
no_nodes lev base [] = refl
no_nodes lev base (l ∷ ls) = no_nodes (suc lev) (base + 0) ls

pub root_f : (ls : List Level) (z : ℕ) → (root ls (negsuc z) ≡ F) × (table ls (negsuc z) ≡ [])
unfolding root table root_keys add_key edge_to
root_f ls z = (refl, no_nodes 1 0 ls)

pub root_t : (ls : List Level) (a : ℕ) → R ls ≤ a → (root ls (pos a) ≡ T) × (table ls (pos a) ≡ [])
unfolding root table root_keys add_key
root_t ls a h = (edge_t ls 0 (add_key ls (pos a) []) a h, rw (le-ltb a (R ls) h) (no_nodes 1 0 ls))

pub root_to : (ls : List Level) (a : ℕ) → a < R ls → root ls (pos a) ≡ to 0
unfolding root root_keys add_key insert place
root_to ls a h = edge_to_lem ls 0 (add_key ls (pos a) []) a h ∙ rw (lt-ltb a (R ls) h) first
  where
    first : to (0 + place (label ls a).lower ((label ls a).lower ∷ [])) ≡ to 0
    first = rw (eq-eqb (label ls a).lower (label ls a).lower refl) (ap to (omega arith))
