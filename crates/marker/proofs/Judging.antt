-- THE JUDGEMENT, record by record: what it is once the records before number k have passed. Assumes nothing.
use mathlib.Core.Path.{◌≡◌, refl, sym, ap, ◌∙◌}
use mathlib.Core.List.{List, [], ◌∷◌}
use mathlib.Core.Bool.{Bool, true, false, ◌&&◌, and-false}
use Prim.Native.Nat.{ℕ, suc, ◌+◌, ◌/◌, ◌≤◌, ◌<◌}
use native.Mathlib.Numerals.{add-one}
use native.Mathlib.Omega.{arith}
use lib.IntN.{ℤ, pos, negsuc}
use lib.ListN.{length, get_or, drop, drop_of_length-le}
use lib.Seq.{drop-cons}
use borrow.Author.Tests.{le-leb, lt-leb, eq-eqb, ne_eqb}
use Rattle.word.specs.Record.{Record, record_words, no_record, records}
use Rattle.refusal.specs.Table.{and_then, unless, Checked, passed}
use Rattle.std.specs.Prelude.{Err}
use Rattle.refusal.specs.declared.Refusal.TheVariants.{BadRecord}
use Rattle.diagram.specs.Level.{Level, R}
use Rattle.word.proofs.Flat.{records_length}
use Rattle.marking.proofs.Judged.{below_zero}
use Rattle.marking.specs.Judged.{record_right, place_right, right_at, each_record, judged}
use Rattle.marker.specs.declared.Fields.{Fields}
use Rattle.marker.specs.Fields.{fields_read, record_in}

module _ (ls : List Level) (a : ℤ) (t es : List ℕ) where
  abbrev verdict : Checked
  verdict = judged ls a (records t) es

  -- what is left of the judgement from record k on
  abbrev pub judged_from : ℕ → Checked
  judged_from k = each_record (right_at ls a (records t) es) k (drop k (records t))

  pub judging_starts : 0 < length t / record_words → verdict ≡ judged_from 0
  unfolding judged
  judging_starts h = go (records t) (omega (arith, records_length t))
    where
      go : (xs : List Record) → 0 < length xs → judged ls a xs es ≡ each_record (right_at ls a xs es) 0 xs
      go [] n = absurd (omega arith)
      go (x ∷ xs) n = refl

  module _ (k : ℕ) (e : verdict ≡ judged_from k) where
    pub judging_ends : length t / record_words ≤ k → passed ≡ verdict
    unfolding each_record
    judging_ends h =
        sym (e ∙ ap (each_record (right_at ls a (records t) es) k) (drop_of_length-le (records t) (let n : length (records t) ≤ k = omega (arith, records_length t) in n)))

    module _ (h : k < length t / record_words) (x : Fields) (f : x ≡ fields_read (get_or (records t) k no_record)) where
      -- the tests of the fields are those of the record
      alone : record_right ls (records t) es (record_in x) ≡ record_right ls (records t) es (get_or (records t) k no_record)
      unfolding record_right
      alone = rw f refl

      place : place_right a k (record_in x) ≡ place_right a k (get_or (records t) k no_record)
      place = rw f refl

      step : verdict ≡ and_then (unless (place_right a k (record_in x) && record_right ls (records t) es (record_in x)) (BadRecord k)) (judged_from (suc k))
      unfolding each_record right_at
      step =
          rw (place, alone)
          (e ∙ ap (each_record (right_at ls a (records t) es) k) (drop-cons (records t) k no_record (let n : k < length (records t) = omega (arith, records_length t) in n)))

      pub bad_place : (b : Bool) → b ≡ place_right a k (record_in x) → b ≡ false → Err (BadRecord k) ≡ verdict
      bad_place b p q = sym (step ∙ rw (sym p ∙ q) refl)

      pub bad_record : (b : Bool) → b ≡ record_right ls (records t) es (record_in x) → b ≡ false → Err (BadRecord k) ≡ verdict
      bad_record b p q = sym (step ∙ rw (sym p ∙ q, and-false (place_right a k (record_in x))) refl)

      pub good_record : (b c : Bool) → b ≡ place_right a k (record_in x) → b ≡ true → c ≡ record_right ls (records t) es (record_in x) → c ≡ true → verdict ≡ judged_from (k + 1)
      good_record b c p q r s = rw add-one (step ∙ rw (sym p ∙ q, sym r ∙ s) refl)

  -- ---- Without records

  pub none_refused : length t / record_words ≡ 0 → (z : ℕ) → a ≡ pos z → z < R ls → Err (BadRecord 0) ≡ verdict
  unfolding judged
  none_refused h z e n = go (records t) (omega (arith, records_length t))
    where
      go : (xs : List Record) → length xs ≡ 0 → Err (BadRecord 0) ≡ judged ls a xs es
      go [] m = rw (e, lt-leb (R ls) z n) refl
      go (x ∷ xs) m = absurd (omega arith)

  pub none_passed : length t / record_words ≡ 0 → (z : ℕ) → a ≡ pos z → R ls ≤ z → passed ≡ verdict
  unfolding judged
  none_passed h z e n = go (records t) (omega (arith, records_length t))
    where
      go : (xs : List Record) → length xs ≡ 0 → passed ≡ judged ls a xs es
      go [] m = rw (e, le-leb (R ls) z n) refl
      go (x ∷ xs) m = absurd (omega arith)

-- ---- Below 0

module _ (t : List ℕ) (ls : List Level) (z : ℕ) (es : List ℕ) where
  pub below_none : length t / record_words ≡ 0 → passed ≡ judged ls (negsuc z) (records t) es
  below_none h = sym (below_zero ls z (records t) es ∙ rw (eq-eqb (length (records t)) 0 (omega (arith, records_length t))) refl)

  pub below_some : (length t / record_words ≡ 0 → ⊥) → Err (BadRecord 0) ≡ judged ls (negsuc z) (records t) es
  below_some h = sym (below_zero ls z (records t) es ∙ rw (ne_eqb (length (records t)) 0 (λ q. h (omega (arith, records_length t)))) refl)
