-- THE WORDS OF A LEVEL among the counts. Assumes nothing.
use Rattle.std.specs.Prelude.{ℕ, ◌+◌}

-- The parts of a level's remainders.
abbrev pub parts : ℕ
parts = 512

-- A level's words: the records before it, the shift from a remainder to its part, and the counts at the ends of the parts, one more than there are parts.
abbrev pub level_words : ℕ
level_words = parts + 3
