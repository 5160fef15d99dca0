-- WORDS THAT HAVE THEIR FOUR BYTES: what the comparer's own functions promise each other, and what its laws speak of. Assumes nothing.
use Rattle.std.specs.Prelude.{◌≡◌, List, Bool, true, ℕ, ◌*◌, ◌<◌, get_or, drop}
use Rattle.comparer.specs.Bytes.{begin_with}

-- Whether word k has its four bytes, which stand behind those of the words before it.
abbrev pub has_four : List ℕ → List ℕ → ℕ → Bool
has_four bs ws k = begin_with (drop (k * 4) bs) (get_or ws k 0)

-- Every word before word k has them.
abbrev pub AllHave : List ℕ → List ℕ → ℕ → Type 0
AllHave bs ws k = (j : ℕ) → j < k → has_four bs ws j ≡ true
