-- NO LINE IS LONGER than the program's buffer: a record's number and a refusal's place are at most as many as the words. Assumes nothing.
use mathlib.Core.Path.{◌≡◌, refl, ap}
use mathlib.Core.List.{List, [], ◌∷◌, ◌++◌}
use mathlib.Core.Bool.{Bool, true, false, cond}
use Prim.Native.Nat.{ℕ, ◌%◌, ◌≤◌, ◌<◌}
use native.Mathlib.Omega.{arith}
use lib.Dec.{ltb, leb, eqb}
use lib.IntN.{ℤ}
use lib.ListN.{length, take, drop, length-append, length-take, length-drop}
use borrow.Author.Tests.{ltb-false, leb-true, leb-false}
use Rattle.word.specs.Record.{Record, records}
use Rattle.word.proofs.Flat.{records_length}
use Rattle.refusal.specs.Table.{number_of, place_of, and_then}
use Rattle.refusal.specs.Table.{Checked}
use Rattle.std.specs.Prelude.{Ok, Err}
use Rattle.text.specs.Decimal.{decimal}
use Rattle.text.specs.Cut.{Wrote}
use Rattle.text.proofs.Cuts.{wrote_as, printed, printed_inside, printed_count, printed_all}
use Rattle.diagram.specs.Level.{Level}
use Rattle.diagram.specs.Constraint.{levels}
use Rattle.limits.specs.Limits.{main_limits}
use Rattle.constraint_words.specs.Reading.{checked, stated}
use Rattle.constraint_words.proofs.Refusals.{Said, placed_within}
use Rattle.marking.specs.HandIn.{FirstBad}
use Rattle.marking.specs.Judged.{judged}
use Rattle.marking.proofs.Judged.{Tells, judged_says}
use Rattle.marker.specs.Reply.{marked_reply}
use Rattle.printout_lines.specs.Text.{newline, refusal_line}
use Rattle.printout.specs.Shown.{words_in}
use Rattle.printout.proofs.Input.{words_in-length}
use Rattle.printout.proofs.Fits.{eight, refusal_few}
use Rattle.printout_marking.specs.declared.Fault.TheVariants.{TooLong, BadLength}
use Rattle.printout_marking.specs.Printed.{Answer, marked_answer, most_hand_in, most_hand_in_words, bad_record_number, record_word, record_line, answer_text, counted_answer, table_answer, words_answer, bytes_answer, mark_text, Marks}
use Rattle.printout_marking.proofs.Input.{AnswerFor}

-- ---- Places

-- what is refused is refused at place n at most
abbrev Placed : ℕ → Checked → Type 0
Placed n = Said (λ x. place_of x ≤ n)

-- the first bad record is one of the records, or 0 where there are none
bad_within : (ls : List Level) (a : ℤ) (xs : List Record) (es : List ℕ) (k : ℕ) → FirstBad ls a xs es k → k ≤ length xs
bad_within ls a xs es k b = go (leb (length xs) k) refl
  where
    go : (t : Bool) → leb (length xs) k ≡ t → k ≤ length xs
    go true e = omega (arith, (b.empty (leb-true (length xs) k e)).0)
    go false e = omega (arith, leb-false (length xs) k e)

told_placed : (ls : List Level) (a : ℤ) (xs : List Record) (es : List ℕ) (n : ℕ) → length xs ≤ n → (c : Checked) → Tells ls a xs es c → Placed n c
told_placed ls a xs es n h (Ok tt) t = tt
told_placed ls a xs es n h (Err x) t = omega (arith, ap place_of t.1, bad_within ls a xs es t.0 t.2)

marked_placed : (ws t es : List ℕ) (n : ℕ) → length ws ≤ n → length t ≤ n → Placed n (marked_reply ws t es)
unfolding marked_reply
marked_placed ws t es n h k = go (checked main_limits ws) (placed_within main_limits ws)
  where
    ls : List Level
    ls = levels (stated ws).terms

    a : ℤ
    a = (stated ws).bound

    go : (c : Checked) → Placed (length ws) c → Placed n (and_then c (judged ls a (records t) es))
    go (Ok tt) p = told_placed ls a (records t) es n (omega (arith, records_length t)) (judged ls a (records t) es) (judged_says ls a (records t) es)
    go (Err x) p = omega arith

-- ---- Lines

-- the longest line is a refusal's, and an answer whose line is no longer
abbrev pub longest_line : ℕ
longest_line = 29

abbrev Few : Answer → Type 0
Few x = length (answer_text x) ≤ longest_line

record_few : (k : ℕ) → k < 100000000 → length (record_line k) ≤ 16
record_few k h = omega (arith, length-append (record_word ++ decimal k) newline, length-append record_word (decimal k), eight k h)

marked_few : (c : Checked) → Placed most_hand_in_words c → Few (marked_answer c)
marked_few (Ok tt) p = omega arith
marked_few (Err x) p = go (eqb (number_of x) bad_record_number)
  where
    go : (t : Bool) → length (cond t (record_line (place_of x)) (refusal_line x)) ≤ longest_line
    go true = omega (arith, record_few (place_of x) (omega arith))
    go false = refusal_few x (omega arith)

-- a counted part and what follows it are no longer than the list
counted_few : (answer : List ℕ → List ℕ → Answer) (xs : List ℕ) → ((a b : List ℕ) → length a ≤ length xs → length b ≤ length xs → Few (answer a b)) → Few (counted_answer answer xs)
unfolding counted_answer
counted_few answer [] f = omega arith
counted_few answer (n ∷ xs) f = go (ltb (length xs) n)
  where
    go : (t : Bool) → Few (cond t (Err BadLength) (answer (take n xs) (drop n xs)))
    go true = omega arith
    go false = f (take n xs) (drop n xs) (omega (arith, length-take n xs)) (omega (arith, length-drop n xs))

words_few : (xs : List ℕ) → length xs ≤ most_hand_in_words → Few (words_answer xs)
words_few xs h =
    counted_few table_answer xs
    (λ ws rest i j. counted_few (λ t es. marked_answer (marked_reply ws t es)) rest (λ t es k l. marked_few (marked_reply ws t es) (marked_placed ws t es most_hand_in_words (omega arith) (omega arith))))

-- THE BOUND
pub mark_few : (bs : List ℕ) → length (mark_text bs) ≤ longest_line
unfolding bytes_answer
mark_few bs = go (ltb most_hand_in (length bs)) refl (eqb (length bs % 4) 0)
  where
    go : (p : Bool) → ltb most_hand_in (length bs) ≡ p → (q : Bool) → Few (cond p (Err TooLong) (cond q (words_answer (words_in bs)) (Err BadLength)))
    go true e q = omega arith
    go false e true = let l = ltb-false most_hand_in (length bs) e in words_few (words_in bs) (omega (arith, words_in-length bs))
    go false e false = omega arith

-- what is put into a buffer of that many bytes or more is the whole line
pub marks_whole : (bs ws out ws' out' : List ℕ) (x : Answer) (r : ℕ) → longest_line ≤ length out → AnswerFor bs ws ws' x → Wrote (answer_text x) 0 out out' r
    → Marks bs ws out ws' out' r × ((r ≤ length out') × (r ≡ length (take r out')))
marks_whole bs ws out ws' out' x r n f w =
    let p = printed (wrote_as (ap answer_text f.0) w) in
    let q = printed_all p (omega (arith, mark_few bs)) in
    (record { reply = q.0; text = q.1; words = f.1 }, (printed_inside p, printed_count p))

-- the two facts under the names of the contract's clauses
pub marks_clauses : {A B : Type 0} → A × B → record { marks : A; upper_bound : B }
marks_clauses p = record { marks = p.0; upper_bound = p.1 }
