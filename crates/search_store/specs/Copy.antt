-- WORDS COPIED to the beginning of others. Assumes nothing.
use Rattle.std.specs.Prelude.{ℕ, List, ◌++◌, length, drop}

-- The words w, the first of them replaced by s.
abbrev pub copied : List ℕ → List ℕ → List ℕ
copied s w = s ++ drop (length s) w
