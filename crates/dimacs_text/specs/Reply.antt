-- WHAT THE CALLS GIVE that turn a clause list into text and text into a clause list, for the result and the lent room, and the values of their reply.
-- Assumes nothing.
use Rattle.std.specs.Prelude.{cond, List, [], ℕ, leb, length, replicate, Result, Ok, Err}
use Rattle.refusal.specs.Table.{number_of, place_of, unless_refused}
use Rattle.word.specs.Word.{last_boolean}
use Rattle.word.specs.Padded.{padded}
use Rattle.refusal.specs.declared.Refusal.{Refusal}
use Rattle.refusal.specs.declared.Refusal.TheVariants.{NoRoom, NotDimacs}
use Rattle.clause.specs.Check.{list_from}
use Rattle.dimacs_text.specs.Claim.{Verdict, words, wrong}
use Rattle.dimacs_text.specs.Written.{written}

-- THE VALUES OF A REPLY: done is number 0 with place 0 and the length; a refusal is its number and place, with length 0.
pub record ConvertedValues : Type 0 where
  pub number : ℕ
  pub place : ℕ
  pub length : ℕ

abbrev pub converted_values : Result ℕ Refusal → ConvertedValues
converted_values (Ok n) = record { number = 0; place = 0; length = n }
converted_values (Err x) = record { number = number_of x; place = place_of x; length = 0 }

-- The length of a result that finds room; else refusal 15.
unfoldable pub fitted : List ℕ → ℕ → Result ℕ Refusal
fitted xs room = cond (leb (length xs) room) (Ok (length xs)) (Err NoRoom)

-- THE WRITER'S REPLY to a clause list: refusals 11 to 14 come first. A literal can hold no Boolean beyond the last, so 12 is Boolean 0 alone.
abbrev pub text_reply : List ℕ → ℕ → Result ℕ Refusal
text_reply ws room = unless_refused Err (list_from last_boolean 0 0 ws) (fitted (written ws) room)

-- THE READER'S REPLY to what the text says, and the words that it says.
abbrev pub words_reply : Verdict → ℕ → Result ℕ Refusal
words_reply (words ws) room = fitted ws room
words_reply (wrong k) room = Err (NotDimacs k)

abbrev pub words_said : Verdict → List ℕ
words_said (words ws) = ws
words_said (wrong k) = []

-- WHAT THE LENT LIST HOLDS after the call: the result with zeros behind it; zeros, after a refusal.
abbrev pub converted_left : Result ℕ Refusal → ℕ → List ℕ → List ℕ
converted_left (Ok n) room result = padded room result
converted_left (Err x) room result = replicate room 0
