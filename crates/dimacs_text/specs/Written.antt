-- THE WRITTEN FORM of a clause list as DIMACS text, word by word. Assumes nothing.
use Rattle.std.specs.Prelude.{cond, List, [], ◌∷◌, ◌++◌, ℕ, suc, max, eqb}
use Rattle.word.specs.Word.{kind, boolean}
use Rattle.text.specs.Decimal.{decimal}
use Rattle.clause.specs.Meaning.{Literal, literal_of}
use Rattle.dimacs_text.specs.Text.{sign}

-- The greatest Boolean of a list, 0 where it has none.
unfoldable pub greatest : List ℕ → ℕ
greatest [] = 0
greatest (w ∷ ws) = cond (eqb (kind w) 3) (greatest ws) (max (boolean w) (greatest ws))

-- The number of its clauses, which is that of its end words.
unfoldable pub clause_count : List ℕ → ℕ
clause_count [] = 0
clause_count (w ∷ ws) = cond (eqb (kind w) 3) (suc (clause_count ws)) (clause_count ws)

-- `p cnf `, the two numbers, and a newline.
abbrev pub header : ℕ → ℕ → List ℕ
header n m = (112 ∷ 32 ∷ 99 ∷ 110 ∷ 102 ∷ 32 ∷ []) ++ decimal n ++ (32 ∷ []) ++ decimal m ++ (10 ∷ [])

-- A literal: a minus sign where it is negated, its Boolean, a space.
abbrev pub literal_text : Literal → List ℕ
literal_text l = sign l.says ++ decimal l.of ++ (32 ∷ [])

-- A word: a literal, or the closing 0 of a clause with the line's end.
abbrev pub word_text : ℕ → List ℕ
word_text w = cond (eqb (kind w) 3) (48 ∷ 10 ∷ []) (literal_text (literal_of w))

unfoldable pub body : List ℕ → List ℕ
body [] = []
body (w ∷ ws) = word_text w ++ body ws

-- THE WRITTEN FORM
abbrev pub written : List ℕ → List ℕ
written ws = header (greatest ws) (clause_count ws) ++ body ws
