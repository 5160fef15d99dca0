-- THE LINE that the marking program prints for the bytes that it has read: a count of constraint words, these words, a count of table words, these words, and
-- the edges, each word as four bytes. Assumes nothing.
use Rattle.std.specs.Prelude.{◌≡◌, List, [], ◌∷◌, ◌++◌, cond, ℕ, ◌/◌, ◌%◌, ltb, eqb, length, take, drop, Result, Ok, Err}
use Rattle.refusal.specs.Table.{number_of, place_of}
use Rattle.refusal.specs.declared.Refusal.{Refusal}
use Rattle.refusal.specs.declared.Refusal.TheVariants.{BadRecord}
use Rattle.refusal.specs.Table.{Checked}
use Rattle.text.specs.Decimal.{decimal}
use Rattle.text.specs.Cut.{overlaid}
use Rattle.printout_lines.specs.Text.{newline, refusal_line, too_long, bad_length}
use Rattle.printout.specs.Shown.{words_in}
use Rattle.marker.specs.Reply.{marked_reply}
use Rattle.printout_marking.specs.declared.Fault.{Fault}
use Rattle.printout_marking.specs.declared.Fault.TheVariants.{TooLong, BadLength, Refused}

-- The bytes that the program takes, and the words that they are.
abbrev pub most_hand_in : ℕ
most_hand_in = 65536

abbrev pub most_hand_in_words : ℕ
most_hand_in_words = most_hand_in / 4

-- ---- The line for an answer

-- `right`, and `record ` with the number of the first bad one.
abbrev pub right_line : List ℕ
right_line = 114 ∷ 105 ∷ 103 ∷ 104 ∷ 116 ∷ 10 ∷ []

abbrev pub record_word : List ℕ
record_word = 114 ∷ 101 ∷ 99 ∷ 111 ∷ 114 ∷ 100 ∷ 32 ∷ []

abbrev pub record_line : ℕ → List ℕ
record_line k = record_word ++ decimal k ++ newline

-- The number of the refusal that names a bad record.
abbrev pub bad_record_number : ℕ
bad_record_number = number_of (BadRecord 0)

-- The line for a refusal by the marker: one of the constraint's words is printed as `show` prints it.
abbrev pub wrong_line : Refusal → List ℕ
wrong_line x = cond (eqb (number_of x) bad_record_number) (record_line (place_of x)) (refusal_line x)

-- An answer: a right hand-in, or why it is not.
abbrev pub Answer : Type 0
Answer = Result Unit Fault

-- The answer that the marker's reply is.
abbrev pub marked_answer : Checked → Answer
marked_answer (Ok tt) = Ok tt
marked_answer (Err x) = Err (Refused x)

-- The line for an answer.
abbrev pub answer_text : Answer → List ℕ
answer_text (Ok tt) = right_line
answer_text (Err TooLong) = too_long
answer_text (Err BadLength) = bad_length
answer_text (Err (Refused x)) = wrong_line x

-- ---- The answer to bytes

-- The answer for a counted part and what follows it; where the count is missing, or says more words than follow, the length is bad.
unfoldable pub counted_answer : (List ℕ → List ℕ → Answer) → List ℕ → Answer
counted_answer answer [] = Err BadLength
counted_answer answer (n ∷ xs) = cond (ltb (length xs) n) (Err BadLength) (answer (take n xs) (drop n xs))

-- The answer for the words of a constraint and what follows them: a counted table, and the edges.
abbrev pub table_answer : List ℕ → List ℕ → Answer
table_answer ws = counted_answer (λ t es. marked_answer (marked_reply ws t es))

-- The answer for all words: a counted constraint, and what follows it.
abbrev pub words_answer : List ℕ → Answer
words_answer = counted_answer table_answer

-- THE ANSWER for bytes, and its line.
unfoldable pub bytes_answer : List ℕ → Answer
bytes_answer bs = cond (ltb most_hand_in (length bs)) (Err TooLong) (cond (eqb (length bs % 4) 0) (words_answer (words_in bs)) (Err BadLength))

abbrev pub mark_text : List ℕ → List ℕ
mark_text bs = answer_text (bytes_answer bs)

-- What the lent words hold afterwards: what they held, or the input's words in front of that.
unfoldable pub words_after : List ℕ → List ℕ → List ℕ
words_after bs old = cond (ltb most_hand_in (length bs)) old (cond (eqb (length bs % 4) 0) (overlaid (words_in bs) old) old)

-- THE PROMISE, over the lists before and after: the whole line at the start of `out`, with what was behind it, and what the lent words hold.
pub record Marks (bs ws out ws' out' : List ℕ) (r : ℕ) : Type 0 where
  pub reply : r ≡ length (mark_text bs)
  pub text : out' ≡ mark_text bs ++ drop r out
  pub words : ws' ≡ words_after bs ws
