-- LEGAL DIMACS TEXT, as bytes, with the clause words that it says: document 01's section 'DIMACS text', a definition for each of its rules. Assumes nothing.
use Rattle.std.specs.Prelude.{◌≡◌, Bool, true, false, List, [], ◌∷◌, ◌++◌, ℕ, suc, ◌≤◌, ◌<◌, eqb, length}
use Rattle.word.specs.Word.{last_boolean, last_count, literal_word, end_word}
use Rattle.text.specs.Decimal.{decimal}

-- The greatest clause count that a header can state.
abbrev pub most_clauses : ℕ
most_clauses = 18446744073709551615

-- What parts the pieces of the header's line: spaces and tabs.
pub data Space : ℕ → Type 0 where
  space : Space 32
  tab : Space 9

-- BLANKS: these, carriage returns and newlines.
pub data Blank : ℕ → Type 0 where
  spaced : {b : ℕ} → Space b → Blank b
  return : Blank 13
  newline : Blank 10

abbrev pub Each : (ℕ → Type 0) → List ℕ → Type 0
Each P [] = Unit {0}
Each P (b ∷ t) = P b × Each P t

-- A byte of a comment, which lasts up to its newline.
abbrev pub Comment : ℕ → Type 0
Comment b = ¬ (b ≡ 10)

-- GAPS between what a text says: blanks, and lines whose first byte is `c`. `Gap f t g`: t is a gap, f says whether its first byte is the first of a line,
-- and g whether the byte behind it is.
pub data Gap : Bool → List ℕ → Bool → Type 0 where
  none : {f : Bool} → Gap f [] f
  blank : {f g : Bool} {b : ℕ} {t : List ℕ} → Blank b → Gap (eqb b 10) t g → Gap f (b ∷ t) g
  comment : {g : Bool} {t : List ℕ} (u : List ℕ) → Each Comment u → Gap true t g → Gap true (99 ∷ (u ++ (10 ∷ t))) g

-- What may stand last: a gap, and behind it perhaps a comment that the text's end cuts off.
pub data Last : Bool → List ℕ → Type 0 where
  whole : {f g : Bool} {t : List ℕ} → Gap f t g → Last f t
  cut : {f : Bool} {t : List ℕ} (u : List ℕ) → Gap f t true → Each Comment u → Last f (t ++ (99 ∷ u))

-- A minus sign stands right before the number of a literal that says that its Boolean is false.
abbrev pub sign : Bool → List ℕ
sign true = []
sign false = 45 ∷ []

-- THE NUMBERS OF THE CLAUSES, each behind a gap that is not empty: literals of the Booleans 1 to n, and a 0 that closes each clause.
-- `Numbers n f l k t ws`: t closes k clauses, l literals of the first of them stand before t, and ws are the words; f is as in `Gap`.
pub data Numbers (n : ℕ) : Bool → ℕ → ℕ → List ℕ → List ℕ → Type 0 where
  end : {f : Bool} {l : ℕ} {t : List ℕ} → Last f t → Numbers n f l 0 t []
  literal : {f g : Bool} {l k : ℕ} {s t ws : List ℕ} (says : Bool) (v : ℕ)
      → Gap f s g → 0 < length s → 0 < v → v ≤ n → l < last_count → Numbers n false (suc l) (suc k) t ws
      → Numbers n f l (suc k) (s ++ (sign says ++ (decimal v ++ t))) (literal_word says v ∷ ws)
  close : {f g : Bool} {l k : ℕ} {s t ws : List ℕ}
      → Gap f s g → 0 < length s → Numbers n false 0 k t ws
      → Numbers n f l (suc k) (s ++ (48 ∷ t)) (end_word l ∷ ws)

-- A piece, and right behind it the rest.
abbrev pub Then : (List ℕ → Type 0) → (List ℕ → Type 0) → List ℕ → Type 0
Then A B t = (x y : List ℕ) × (t ≡ x ++ y) × A x × B y

-- A number in decimal, which has no leading zero, up to `most`, and right behind it the rest.
abbrev pub Number : ℕ → (ℕ → List ℕ → Type 0) → List ℕ → Type 0
Number most B t = (v : ℕ) × (y : List ℕ) × (t ≡ decimal v ++ y) × (v ≤ most) × B v y

abbrev pub Spaces : List ℕ → Type 0
Spaces t = (0 < length t) × Each Space t

-- The header's line, piece by piece from its end: what stands behind the first number n, behind `cnf`, behind `p`.
abbrev pub AfterFirst : ℕ → List ℕ → List ℕ → Type 0
AfterFirst n ws = Number most_clauses (λ m t. Numbers n false 0 m t ws)

abbrev pub AfterCnf : List ℕ → List ℕ → Type 0
AfterCnf ws = Number last_boolean (λ n. Then Spaces (AfterFirst n ws))

abbrev pub AfterP : List ℕ → List ℕ → Type 0
AfterP ws = Then (λ x. x ≡ 99 ∷ 110 ∷ 102 ∷ []) (Then Spaces (AfterCnf ws))

-- A gap at the start of the text, where a line begins.
abbrev pub First : List ℕ → Type 0
First t = (f : Bool) × Gap true t f

-- A LEGAL TEXT t that says the clause words ws.
abbrev pub Legal : List ℕ → List ℕ → Type 0
Legal t ws = Then First (Then (λ x. x ≡ 112 ∷ []) (Then Spaces (AfterP ws))) t
