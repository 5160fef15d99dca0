-- WHAT A TEXT SAYS: clause words where it is legal, and else the place of refusal 16, both by legal texts alone. Assumes nothing.
use Rattle.std.specs.Prelude.{List, ◌++◌, ℕ, suc, ◌≤◌, ◌<◌, length, take}
use Rattle.dimacs_text.specs.Text.{Legal}

-- Some legal text begins so.
abbrev pub Begins : List ℕ → Type 0
Begins t = (u ws : List ℕ) × Legal (t ++ u) ws

-- THE PLACE k OF REFUSAL 16: some legal text begins with the bytes before it, and none with these and the byte there; k is the length where the whole text begins a
-- legal one.
pub record WrongAt (t : List ℕ) (k : ℕ) : Type 0 where
  pub within : k ≤ length t
  pub possible : Begins (take k t)
  pub hopeless : k < length t → ¬ Begins (take (suc k) t)
  pub illegal : (ws : List ℕ) → ¬ Legal t ws

pub data Verdict : Type 0 where
  words : List ℕ → Verdict
  wrong : ℕ → Verdict

abbrev pub Says : List ℕ → Verdict → Type 0
Says t (words ws) = Legal t ws
Says t (wrong k) = WrongAt t k
