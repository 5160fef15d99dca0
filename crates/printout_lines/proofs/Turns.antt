-- The turns of the loops: what is left to write from one child or node on is its own text, and what is left from the next on. Assumes nothing.
use mathlib.Core.Path.{◌≡◌, ap}
use mathlib.Core.List.{List, [], ◌∷◌, map}
use Prim.Native.Nat.{ℕ, ◌+◌, ◌≤◌, ◌<◌}
use native.Mathlib.Numerals.{add-one}
use lib.ListN.{length, get_or, drop, drop_of_length-le}
use lib.Seq.{drop-cons}
use Rattle.word.proofs.Kept.{Parts}
use Rattle.word.specs.Edge.{edge_in}
use Rattle.printout_lines.specs.Text.{child, children}

-- ---- Children

-- from child j on
abbrev pub child_text_left : List ℕ → ℕ → List ℕ
child_text_left ws j = children (map edge_in (drop j ws))

pub child_text_turn : (ws : List ℕ) (j : ℕ) → j < length ws → Parts (child_text_left ws j) (32 ∷ child (edge_in (get_or ws j 0))) (child_text_left ws (j + 1))
unfolding children
child_text_turn ws j h = record { joined = rw (drop-cons ws j 0, add-one) }

pub child_text_none : (ws : List ℕ) (j : ℕ) → length ws ≤ j → child_text_left ws j ≡ []
unfolding children
child_text_none ws j h = ap (λ (l : List ℕ). children (map edge_in l)) (drop_of_length-le ws {i = j} h)
