-- WRITING into a lent buffer from a place on, where there is room. Only what our own functions promise each other speaks of it. Assumes nothing.
use Rattle.std.specs.Prelude.{◌≡◌, List, ◌++◌, ℕ, ◌+◌, ◌≤◌, length, take, drop}

-- The words find room from a place on.
abbrev pub Room : List ℕ → ℕ → List ℕ → Type 0
Room ws at out = at + length ws ≤ length out

-- The words stand behind what stood before the place, and r is the place behind them. From r on the buffer is as before, and it is as long.
pub record WroteWords (ws : List ℕ) (at : ℕ) (before after : List ℕ) (r : ℕ) : Type 0 where
  pub place : r ≡ at + length ws
  pub front : take r after ≡ take at before ++ ws
  pub rest : drop r after ≡ drop r before
  pub kept : length after ≡ length before
