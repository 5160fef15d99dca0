-- THE ANSWER AND THE LENT WORDS by the number of bytes: too many, no whole words, or the words of a hand-in. Assumes nothing.
use mathlib.Core.Path.{◌≡◌, refl, sym, ap, ◌∙◌}
use mathlib.Core.List.{List}
use mathlib.Core.Bool.{Bool, true, false}
use mathlib.Core.Logic.{◌≢◌}
use Prim.Native.Nat.{ℕ, suc, ◌%◌, ◌≤◌, ◌<◌}
use native.Mathlib.Omega.{arith}
use lib.Dec.{ltb}
use lib.ListN.{length, take, length-take}
use lib.Seq.{take_all}
use borrow.Author.Tests.{ltb-true, ltb-false, lt-ltb, le-ltb, eq-eqb, ne_eqb}
use Rattle.text.specs.Cut.{Printed}
use Rattle.text.proofs.Cuts.{printed_front}
use Rattle.printout.specs.Shown.{words_in}
use Rattle.printout.proofs.Input.{words_in-length}
use Rattle.std.proofs.Common.{Err}
use Rattle.printout_marking.specs.declared.Fault.TheVariants.{TooLong, BadLength}
use Rattle.printout_marking.specs.Printed.{Answer, most_hand_in, most_hand_in_words, words_answer, bytes_answer, words_after}

-- an answer is the one for bytes, and a list holds what the lent words hold afterwards
abbrev pub AnswerFor : List ℕ → List ℕ → List ℕ → Answer → Type 0
AnswerFor bs ws ws' x = (x ≡ bytes_answer bs) × (ws' ≡ words_after bs ws)

module _ (bs ws : List ℕ) where
  pub answer_long : most_hand_in < length bs → AnswerFor bs ws ws (Err TooLong)
  unfolding bytes_answer words_after
  answer_long h = rw (lt-ltb most_hand_in (length bs) h) (refl, refl)

  pub answer_bad : length bs ≤ most_hand_in → length bs % 4 ≢ 0 → AnswerFor bs ws ws (Err BadLength)
  unfolding bytes_answer words_after
  answer_bad h k = rw (le-ltb most_hand_in (length bs) h, ne_eqb (length bs % 4) 0 k) (refl, refl)

  -- the words read find room in a list of the most words
  pub answer_words : (ws' : List ℕ) (k : ℕ) (x : Answer) → length bs ≤ most_hand_in → length bs % 4 ≡ 0 → most_hand_in_words ≤ length ws → Printed (words_in bs) ws ws' k
      → x ≡ words_answer (take k ws') → AnswerFor bs ws ws' x
  unfolding bytes_answer words_after
  answer_words ws' k x h m n p v =
      let q : take k ws' ≡ words_in bs = printed_front p ∙ take_all (length ws) (words_in bs) (omega (arith, words_in-length bs)) in
      rw (le-ltb most_hand_in (length bs) h, eq-eqb (length bs % 4) 0 m) (v ∙ ap words_answer q, p.list)

says_long : (bs : List ℕ) → most_hand_in < length bs → bytes_answer bs ≡ Err TooLong
says_long bs h = sym (answer_long bs bs h).0

-- one byte more than the most tells as much as all: the answer is the same, whatever follows
pub bytes_enough : (bs : List ℕ) → bytes_answer (take (suc most_hand_in) bs) ≡ bytes_answer bs
bytes_enough bs = go (ltb most_hand_in (length bs)) refl
  where
    go : (p : Bool) → ltb most_hand_in (length bs) ≡ p → bytes_answer (take (suc most_hand_in) bs) ≡ bytes_answer bs
    go true e = let l = ltb-true most_hand_in (length bs) e in says_long (take (suc most_hand_in) bs) (omega (arith, length-take (suc most_hand_in) bs)) ∙ sym (says_long bs l)
    go false e = let l = ltb-false most_hand_in (length bs) e in ap bytes_answer (take_all (suc most_hand_in) bs (omega arith))

-- the two facts under the names of the contract's clauses
pub answer_clauses : {A B : Type 0} → A × B → record { value : A; words_after : B }
answer_clauses p = record { value = p.0; words_after = p.1 }
