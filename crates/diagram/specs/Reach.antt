-- WHAT A REMAINDER BUILDS: the nodes that it reaches, level by level down. Only what the functions of the builder promise each other speaks of it. Assumes nothing.
use Rattle.std.specs.Prelude.{◌≡◌, List, [], ◌∷◌, ℕ, zero, suc, ◌+◌, ◌-◌, ◌≤◌, ◌<◌, drop}
use Rattle.diagram.specs.Level.{Level, R}
use Rattle.diagram.specs.Label.{label}
use Rattle.diagram.specs.Claim.{level_at}

-- The number k is the key of an undecided remainder that r leaves, m levels down.
abbrev pub Reach : List Level → ℕ → ℕ → ℕ → Type 0
Reach ls zero r k = (r < R ls) × ((label ls r).lower ≡ k)
Reach [] (suc m) r k = ⊥
Reach (l ∷ ls) (suc m) r k = (j : ℕ) × (j ≤ l.dom) × (l.off j ≤ r) × Reach ls m (r - l.off j) k

-- The node of level i' and key q is built for remainder r at level i.
pub record From (ls : List Level) (i r i' q : ℕ) : Type 0 where
  pub deep : ℕ
  pub down : i' ≡ i + deep
  pub way : Reach (drop i ls) deep r q

-- It is built for child y of remainder r at level i.
abbrev pub Part : List Level → ℕ → ℕ → ℕ → ℕ → ℕ → Type 0
Part ls i r y i' q = ((level_at ls i).off y ≤ r) × From ls (suc i) (r - (level_at ls i).off y) i' q
