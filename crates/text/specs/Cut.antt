-- WRITING into a lent list; what finds no room is cut off. Assumes nothing.
use Rattle.std.specs.Prelude.{◌≡◌, List, ◌++◌, ℕ, ◌+◌, ◌-◌, min, length, take, drop}

-- A list with a text at its start, up to the list's end; what is behind the text stays.
abbrev pub overlaid : List ℕ → List ℕ → List ℕ
overlaid text old = take (length old) text ++ drop (length (take (length old) text)) old

-- THE TEXT stands at the start of the list, and r is the length of what found room.
pub record Printed (text before after : List ℕ) (r : ℕ) : Type 0 where
  pub reply : r ≡ length (take (length before) text)
  pub list : after ≡ overlaid text before

-- The place behind n bytes from a place on, in a list of so many bytes: those that find no room do not count.
unfoldable pub past : ℕ → ℕ → ℕ → ℕ
past room at n = at + min (room - at) n

-- BYTES PUT IN from a place on: they stand behind what stood before the place `at`, up to the list's end, and r is the place behind those that found room. What
-- is behind that place, and the list's length, are as before.
pub record Wrote (bs : List ℕ) (at : ℕ) (before after : List ℕ) (r : ℕ) : Type 0 where
  pub reply : r ≡ past (length before) at (length bs)
  pub front : take r after ≡ take (length before) (take at before ++ bs)
  pub behind : drop r after ≡ drop r before
  pub kept : length after ≡ length before
