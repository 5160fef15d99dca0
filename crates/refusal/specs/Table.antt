-- THE REFUSAL TABLE of document 01, and of document 02 from 15 on: the number and the place of each row. Assumes nothing.
use Rattle.std.specs.Prelude.{ℕ, Bool, true, false, ◌&&◌, ◌||◌, leb, Result, Ok, Err}
use Rattle.refusal.specs.declared.Refusal.{Refusal}
use Rattle.refusal.specs.declared.Refusal.TheVariants.{NoWords, WrongKind, TermCount, DomainEnd, ZeroCoefficient, TooManyNodes, TooManyEdges, TooManyWords, ValueByte, ClauseWord, UnknownBoolean, LiteralCount, OpenClause, NoRoom, NotDimacs, WrongRelation, LowerEnd, BufferLength, BadRecord}

abbrev pub number_of : Refusal → ℕ
number_of NoWords = 1
number_of (WrongKind at) = 2
number_of (TermCount at) = 3
number_of (DomainEnd at) = 4
number_of (ZeroCoefficient at) = 5
number_of TooManyNodes = 6
number_of TooManyEdges = 7
number_of TooManyWords = 8
number_of (ValueByte at) = 10
number_of (ClauseWord at) = 11
number_of (UnknownBoolean at) = 12
number_of (LiteralCount at) = 13
number_of (OpenClause at) = 14
number_of NoRoom = 15
number_of (NotDimacs at) = 16
number_of (WrongRelation at) = 17
number_of (LowerEnd at) = 18
number_of BufferLength = 19
number_of (BadRecord at) = 20

abbrev pub place_of : Refusal → ℕ
place_of NoWords = 0
place_of (WrongKind at) = at
place_of (TermCount at) = at
place_of (DomainEnd at) = at
place_of (ZeroCoefficient at) = at
place_of TooManyNodes = 0
place_of TooManyEdges = 0
place_of TooManyWords = 0
place_of (ValueByte at) = at
place_of (ClauseWord at) = at
place_of (UnknownBoolean at) = at
place_of (LiteralCount at) = at
place_of (OpenClause at) = at
place_of NoRoom = 0
place_of (NotDimacs at) = at
place_of (WrongRelation at) = at
place_of (LowerEnd at) = at
place_of BufferLength = 0
place_of (BadRecord at) = at

-- The refusals that constraint words alone decide, by their numbers: 1 to 5, and 17 and 18. They leave lent memory untouched.
abbrev pub of_words : ℕ → Bool
of_words n = leb n 5 || (leb 17 n && leb n 18)

-- What a check finds: nothing to refuse, or the first refusal.
abbrev pub Checked : Type 0
Checked = Result Unit Refusal

abbrev pub passed : Checked
passed = Ok tt

-- THE VALUES OF A CHECK'S ANSWER: number and place of the refusal, 0 and 0 where there is none.
pub record CheckedValues : Type 0 where
  pub number : ℕ
  pub place : ℕ

abbrev pub checked_values : Checked → CheckedValues
checked_values (Ok tt) = record { number = 0; place = 0 }
checked_values (Err x) = record { number = number_of x; place = place_of x }

-- Checks run in order: the next is asked where the one before has passed.
abbrev pub and_then : Checked → Checked → Checked
and_then (Ok tt) next = next
and_then (Err x) next = Err x

-- A check of one fact.
abbrev pub unless : Bool → Refusal → Checked
unless true x = passed
unless false x = Err x

-- The answer of a call that checks first: the refusal, as the call's own kind of answer says it, or what comes next.
abbrev pub unless_refused {ℓ} : {A : Type ℓ} → (Refusal → A) → Checked → A → A
unless_refused refuse (Ok tt) next = next
unless_refused refuse (Err x) next = refuse x
