-- PLAIN WORDS, those of document 01: behind the bound all are terms without a sign. What the calls promise that look for them. Assumes nothing.
use Rattle.std.specs.Prelude.{Bool, cond, List, [], ◌∷◌, ℕ, suc, ◌+◌, ◌/◌, eqb, length, drop}
use Rattle.word.specs.Word.{half}

-- How many of the words are terms without a sign: of kind 1, with bit 29 clear.
unfoldable pub unsigned_in : List ℕ → ℕ
unsigned_in [] = 0
unsigned_in (w ∷ ws) =
    let more : ℕ = unsigned_in ws in
    cond (eqb (w / half) 2) (suc more) more

abbrev pub is_plain : List ℕ → Bool
is_plain ws = eqb (unsigned_in (drop 1 ws) + 1) (length ws)
