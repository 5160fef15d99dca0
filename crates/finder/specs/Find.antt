-- THE FINDER'S REPLY: the first record of a level whose label holds a remainder, or the gap where there is none; and the values of a reply. Assumes nothing.
use Rattle.std.specs.Prelude.{◌≡◌, List, [], ◌∷◌, Bool, true, false, ◌&&◌, ◌||◌, cond, ℕ, suc, ◌+◌, ◌*◌, ◌≤◌, ◌<◌, leb, ltb, eqb, length, get_or, Result, Ok, Err}
use Rattle.word.specs.Record.{Record, Among, no_record}
use Rattle.finder.specs.declared.Fields.{Fields}
use Rattle.word.specs.declared.NodeNumber.{NodeNumber}

-- THE VALUES OF A REPLY: found is 1 and number the record's; where there is none, found is 0 and number the gap.
pub record FoundValues : Type 0 where
  pub found : ℕ
  pub number : ℕ

abbrev pub found_values : Result NodeNumber ℕ → FoundValues
found_values (Ok k) = record { found = 1; number = k.0 }
found_values (Err gap) = record { found = 0; number = gap }

-- The level is the wanted one, and the label from lower to upper holds r. With lower above upper it holds nothing.
abbrev pub fields_hold : ℕ → ℕ → ℕ → ℕ → ℕ → Bool
fields_hold level lower upper wanted r = eqb level wanted && (leb lower r && leb r upper)

-- A record is of the wanted level and its label holds r. The place in the edge list and the number of entering edges are not read.
abbrev pub holds : Record → ℕ → ℕ → Bool
holds x wanted r = fields_hold x.level x.lower x.upper wanted r

-- The level is smaller than the wanted one, or it is that one and the upper end is below r.
abbrev pub fields_before : ℕ → ℕ → ℕ → ℕ → Bool
fields_before level upper wanted r = ltb level wanted || (eqb level wanted && ltb upper r)

-- A record lies before r at the wanted level. Its lower end is not read.
abbrev pub lies_before : Record → ℕ → ℕ → Bool
lies_before x wanted r = fields_before x.level x.upper wanted r

-- A yes as the number 1, a no as 0.
abbrev pub bit_of : Bool → ℕ
bit_of true = 1
bit_of false = 0

-- THE GAP: how many records lie before r at the wanted level, wherever they stand in the list.
unfoldable pub gap_in : List Record → ℕ → ℕ → ℕ
gap_in [] wanted r = 0
gap_in (x ∷ xs) wanted r = bit_of (lies_before x wanted r) + gap_in xs wanted r

-- The number of the first record that holds r, where the list's own first has the number k; where none does, nothing, with a gap that is given.
unfoldable pub find_from : ℕ → ℕ → List Record → ℕ → ℕ → Result NodeNumber ℕ
find_from k gap [] wanted r = Err gap
find_from k gap (x ∷ xs) wanted r = cond (holds x wanted r) (Ok (record { 0 = k })) (find_from (suc k) gap xs wanted r)

-- THE REPLY, with records numbered from 0; nothing carries the gap of all records.
abbrev pub find_in : List Record → ℕ → ℕ → Result NodeNumber ℕ
find_in xs wanted r = find_from 0 (gap_in xs wanted r) xs wanted r

-- No record is of the level and holds r.
abbrev pub Missing : List Record → ℕ → ℕ → Type 0
Missing xs level r = (x : Record) → Among x xs → x.level ≡ level → x.lower ≤ r → r ≤ x.upper → ⊥

-- A level and a number of 32 bits as one number: by level first.
abbrev pub key : ℕ → ℕ → ℕ
key level x = level * 4294967296 + x

-- What the finder reads of a record.
abbrev pub searched_fields : Record → Fields
searched_fields x = record { level = x.level; lower = x.lower; upper = x.upper }

-- CALLS READ THE RECORDS: what a call at a record's number may reply is what the finder reads of the record.
abbrev pub ReadBy : (ℕ → Fields → Type 0) → List Record → Type 0
ReadBy replies xs = (k : ℕ) → k < length xs → (x : Fields) → replies k x → x ≡ searched_fields (get_or xs k no_record)
