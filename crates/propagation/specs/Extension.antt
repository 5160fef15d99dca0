-- BYTES BETWEEN what is given and what is settled: what a function that works on them in any order promises. Assumes nothing.
use Rattle.std.specs.Prelude.{◌≡◌, List, [], ◌∷◌, Bool, true, false, ℕ, ◌+◌, ltb, length}
use Rattle.clause.specs.Meaning.{Literal, Clause}
use Rattle.propagation.specs.Derived.{TrueIn, HasClause, Derived, Bytes}
use Rattle.propagation.specs.Propagated.{neither, status}

-- Bytes b EXTEND bytes bs SOUNDLY: they hold what bs hold, and nothing but what is settled from there.
pub record SoundExtension (cs : List Clause) (bs b : List ℕ) : Type 0 where
  pub sound : (l : Literal) → TrueIn b l → Derived cs bs l
  pub keeps : (l : Literal) → TrueIn bs l → TrueIn b l
  pub long : length b ≡ length bs
  pub legal : Bytes b

-- STABLE bytes: no clause is unit in them, and none is falsified.
abbrev pub Stable : List ℕ → List Clause → Type 0
Stable bs cs = (c : Clause) → HasClause cs c → status bs c ≡ neither

-- How many bytes are open.
abbrev pub open_bit : Bool → ℕ
open_bit true = 1
open_bit false = 0

abbrev pub open_count : List ℕ → ℕ
open_count [] = 0
open_count (b ∷ bs) = open_bit (ltb 1 b) + open_count bs
