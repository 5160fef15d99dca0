-- READING A BYTE AT A TIME: the states between two bytes of a text, and what a byte leads to. Only the contracts of our own functions speak of it; that this
-- is what legal text means is proved in Accepts, Sound and Viable. Assumes nothing.
use Rattle.std.specs.Prelude.{Bool, true, false, cond, ◌&&◌, ◌||◌, List, [], ◌∷◌, ℕ, suc, ◌+◌, ◌-◌, ◌*◌, ◌≤◌, ◌<◌, eqb, leb}
use Rattle.word.specs.Word.{last_boolean, last_count, literal_word, end_word}
use Rattle.dimacs_text.specs.Text.{most_clauses}
use Rattle.dimacs_text.specs.Claim.{Verdict, words, wrong}

-- what the header and the clauses so far leave: the greatest Boolean allowed, the clauses still to be closed, the literals of the one being read
pub record Count : Type 0 where
  pub most : ℕ
  pub left : ℕ
  pub literals : ℕ

abbrev pub count : ℕ → ℕ → ℕ → Count
count n k l = record { most = n; left = k; literals = l }

-- where a gap stands
pub data Spot : Type 0 where
  before : Spot
  after : Count → Spot

-- whose spaces these are
pub data Slot : Type 0 where
  after_p : Slot
  after_cnf : Slot
  after_first : ℕ → Slot

-- whose digits these are
pub data Role : Type 0 where
  first : Role
  second : ℕ → Role
  literal : Count → Bool → Role

pub data State : Type 0 where
  gap : Spot → Bool → State
  comment : Spot → State
  seen_p : State
  seen_c : State
  seen_cn : State
  seen_cnf : State
  spaces : Slot → State
  num : Role → ℕ → State
  minus : Count → State
  closed : Count → State

-- one byte: no legal text can follow; a state; a state and a word of the clause list
pub data Next : Type 0 where
  bad : Next
  on : State → Next
  put : State → ℕ → Next

abbrev pub space? : ℕ → Bool
space? b = eqb b 32 || eqb b 9

abbrev pub blank? : ℕ → Bool
blank? b = space? b || (eqb b 13 || eqb b 10)

abbrev pub digit? : ℕ → Bool
digit? b = leb 48 b && leb b 57

abbrev pub limit : Role → ℕ
limit first = last_boolean
limit (second n) = most_clauses
limit (literal w says) = w.most

abbrev pub start : State
start = gap before true

-- the first digit of a literal
abbrev pub lead : Count → Bool → ℕ → Next
lead w says b = cond (leb 49 b && leb b 57) (cond (leb (b - 48) w.most) (on (num (literal w says) (b - 48))) bad) bad

-- the first byte of a number of the clauses, or of the header
abbrev pub begin : Spot → ℕ → Next
begin before b = cond (eqb b 112) (on seen_p) bad
begin (after w) b =
    cond (eqb w.left 0) bad
    (cond (eqb b 48) (put (closed (count w.most (w.left - 1) 0)) (end_word w.literals))
    (cond (leb last_count w.literals) bad
    (cond (eqb b 45) (cond (eqb w.most 0) bad (on (minus w)))
    (lead w true b))))

abbrev pub opens : Slot → ℕ → Next
opens after_p b = cond (eqb b 99) (on seen_c) bad
opens after_cnf b = cond (digit? b) (on (num first (b - 48))) bad
opens (after_first n) b = cond (digit? b) (on (num (second n) (b - 48))) bad

abbrev pub after_digits : Role → ℕ → ℕ → Next
after_digits first v b = cond (space? b) (on (spaces (after_first v))) bad
after_digits (second n) v b = cond (blank? b) (on (gap (after (count n v 0)) (eqb b 10))) bad
after_digits (literal w says) v b = cond (blank? b) (put (gap (after (count w.most w.left (suc w.literals))) (eqb b 10)) (literal_word says v)) bad

unfoldable pub step : State → ℕ → Next
step (gap s f) b = cond (blank? b) (on (gap s (eqb b 10))) (cond (f && eqb b 99) (on (comment s)) (begin s b))
step (comment s) b = cond (eqb b 10) (on (gap s true)) (on (comment s))
step seen_p b = cond (space? b) (on (spaces after_p)) bad
step seen_c b = cond (eqb b 110) (on seen_cn) bad
step seen_cn b = cond (eqb b 102) (on seen_cnf) bad
step seen_cnf b = cond (space? b) (on (spaces after_cnf)) bad
step (spaces k) b = cond (space? b) (on (spaces k)) (opens k b)
step (num r v) b =
    cond (digit? b) (cond (eqb v 0) bad (cond (leb (10 * v + (b - 48)) (limit r)) (on (num r (10 * v + (b - 48)))) bad)) (after_digits r v b)
step (minus w) b = lead w false b
step (closed w) b = cond (blank? b) (on (gap (after w) (eqb b 10))) bad

-- the text may end here
abbrev pub done : Spot → Bool
done before = false
done (after w) = eqb w.left 0

abbrev pub last : Role → ℕ → Bool
last first v = false
last (second n) v = eqb v 0
last (literal w says) v = false

unfoldable pub final : State → Bool
final (gap s f) = done s
final (comment s) = done s
final seen_p = false
final seen_c = false
final seen_cn = false
final seen_cnf = false
final (spaces k) = false
final (num r v) = last r v
final (minus w) = false
final (closed w) = eqb w.left 0

-- the verdict on a text, byte by byte
abbrev pub one_later : Verdict → Verdict
one_later (words ws) = words ws
one_later (wrong k) = wrong (suc k)

abbrev pub with_word : ℕ → Verdict → Verdict
with_word w (words ws) = words (w ∷ ws)
with_word w (wrong k) = wrong k

abbrev pub go_on : Next → (State → Verdict) → Verdict
go_on bad k = wrong 0
go_on (on s) k = one_later (k s)
go_on (put s w) k = with_word w (one_later (k s))

unfoldable pub run : State → List ℕ → Verdict
run s [] = cond (final s) (words []) (wrong 0)
run s (b ∷ t) = go_on (step s b) (λ s'. run s' t)

-- THE STATES THAT A READER CAN BE IN: their numbers keep to the limits.
abbrev pub GoodCount : Count → Type 0
GoodCount w = (w.most ≤ last_boolean) × (w.literals ≤ last_count)

abbrev pub GoodSpot : Spot → Type 0
GoodSpot before = Unit
GoodSpot (after w) = GoodCount w

abbrev pub GoodSlot : Slot → Type 0
GoodSlot after_p = Unit
GoodSlot after_cnf = Unit
GoodSlot (after_first n) = n ≤ last_boolean

-- a literal is being read: there is room for it
abbrev pub GoodOpen : Count → Type 0
GoodOpen w = (w.most ≤ last_boolean) × (w.literals < last_count)

abbrev pub GoodRole : Role → ℕ → Type 0
GoodRole first v = v ≤ last_boolean
GoodRole (second n) v = (n ≤ last_boolean) × (v ≤ most_clauses)
GoodRole (literal w says) v = GoodOpen w × (v ≤ w.most)

abbrev pub GoodState : State → Type 0
GoodState (gap p f) = GoodSpot p
GoodState (comment p) = GoodSpot p
GoodState seen_p = Unit
GoodState seen_c = Unit
GoodState seen_cn = Unit
GoodState seen_cnf = Unit
GoodState (spaces k) = GoodSlot k
GoodState (num r v) = GoodRole r v
GoodState (minus w) = GoodOpen w × (0 < w.most)
GoodState (closed w) = GoodCount w
