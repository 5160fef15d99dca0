-- THE MEANING OF A CLAUSE LIST: literals and clauses as data, the clauses that a list of words has, and when values of the Booleans make a literal,
-- a clause and a list true. Assumes nothing.
use Rattle.std.specs.Prelude.{◌≡◌, ◌⊎◌, List, [], ◌∷◌, Bool, true, false, cond, not, ℕ, eqb, length}
use Rattle.word.specs.Word.{kind, boolean, negated, literal_word, end_word}

-- A literal speaks of one Boolean, and says that it is true, or that it is false.
pub record Literal : Type 0 where
  pub of : ℕ
  pub says : Bool

abbrev pub Clause : Type 0
Clause = List Literal

-- VALUES give each Boolean its value. A literal is true when its Boolean has the value that it says, a clause when at least one of its literals is, so an
-- empty one never is, and a list when all its clauses are.
abbrev pub Values : Type 0
Values = ℕ → Bool

abbrev pub LiteralTrue : Values → Literal → Type 0
LiteralTrue v l = v l.of ≡ l.says

abbrev pub ClauseTrue : Values → Clause → Type 0
ClauseTrue v [] = ⊥
ClauseTrue v (l ∷ c) = LiteralTrue v l ⊎ ClauseTrue v c

abbrev pub AllTrue : Values → List Clause → Type 0
AllTrue v [] = Unit {0}
AllTrue v (c ∷ cs) = ClauseTrue v c × AllTrue v cs

-- THE CLAUSES OF A LIST OF WORDS: the literals up to each end word. Literals after the last end word are no clause.
abbrev pub literal_of : ℕ → Literal
literal_of w = record { of = boolean w; says = not (negated w) }

abbrev pub joined : Literal → List Clause → List Clause
joined l [] = []
joined l (c ∷ cs) = (l ∷ c) ∷ cs

unfoldable pub clauses_of : List ℕ → List Clause
clauses_of [] = []
clauses_of (w ∷ ws) =
    let ends : List Clause = [] ∷ clauses_of ws in
    let goes : List Clause = joined (literal_of w) (clauses_of ws) in
    cond (eqb (kind w) 3) ends goes

-- THE WORDS OF A LIST OF CLAUSES: of each the literals and an end word with their count.
abbrev pub word_of : Literal → ℕ
word_of l = literal_word l.says l.of

abbrev pub closed : Clause → List ℕ → List ℕ
closed [] ws = ws
closed (l ∷ c) ws = word_of l ∷ closed c ws

abbrev pub words_of : List Clause → List ℕ
words_of [] = []
words_of (c ∷ cs) = closed c (end_word (length c) ∷ words_of cs)

-- The same as tests.
abbrev pub same : Bool → Bool → Bool
same true b = b
same false b = not b

abbrev pub literal_true : Values → Literal → Bool
literal_true v l = same (v l.of) l.says

unfoldable pub clause_true : Values → Clause → Bool
clause_true v [] = false
clause_true v (l ∷ c) = let more : Bool = clause_true v c in cond (literal_true v l) true more
