-- LEVELS BY THEIR DOMAIN ENDS alone. Assumes nothing.
use Rattle.std.specs.Prelude.{List, map, ℕ}
use Rattle.diagram.specs.Level.{Level}

-- Levels with these domain ends: the order Booleans and the clauses of a drawing depend on no more of them.
abbrev pub ended : List ℕ → List Level
ended ds = map (λ (d : ℕ). record { dom = d; off = λ j. 0 }) ds
