-- THE LABELS OF A FLAT TABLE: how many there are, which words they are, where they are cut, and what storing a record does to them. From the laws of records.
-- Assumes nothing.
use mathlib.Core.Path.{◌≡◌, refl, sym, ap, ◌∙◌}
use mathlib.Core.List.{List, [], ◌∷◌, ◌++◌, map, map-append}
use mathlib.Core.Logic.{◌≢◌}
use mathlib.Core.Bool.{Bool, true, false}
use lib.Dec.{eqb}
use Prim.Native.Nat.{ℕ, zero, suc, ◌+◌, ◌*◌, ◌/◌, ◌<◌}
use native.Mathlib.Omega.{arith}
use lib.ListN.{length, get_or, take, drop, set, length-map, length-set, get_or-map}
use lib.Seq.{get_or-take, length-take-le, ext_get_or, get_or-set_same, get_or-set_other}
use borrow.Author.Tests.{eqb-true, eqb-false}
use Rattle.word.specs.Record.{Record, record_words, lower_word, upper_word, RecordsFit, no_record, records, record_at, label_from, bare, labels, labelled}
use Rattle.word.proofs.Flat.{records_length, record_at_lem, records_take, records_drop, records_append}

map_take : (n : ℕ) (xs : List Record) → map bare (take n xs) ≡ take n (map bare xs)
map_take zero xs = refl
map_take (suc n) [] = refl
map_take (suc n) (x ∷ xs) = ap (λ (l : List Record). bare x ∷ l) (map_take n xs)

map_drop : (n : ℕ) (xs : List Record) → map bare (drop n xs) ≡ drop n (map bare xs)
map_drop zero xs = refl
map_drop (suc n) [] = refl
map_drop (suc n) (x ∷ xs) = map_drop n xs

pub labels_length : (t : List ℕ) → length (labels t) ≡ length t / record_words
labels_length t = length-map (records t) bare ∙ records_length t

-- LABEL k is that of the words from the record's place on.
pub label_at : (t : List ℕ) (k : ℕ) → k < length (labels t) → get_or (labels t) k no_record ≡ bare (record_at t k)
label_at t k h =
    get_or-map bare (records t) k no_record
    ∙ ap bare (record_at_lem t k no_record (omega (arith, length-map (records t) bare)))

-- THE CUT at a label is the one at its record's place.
pub labels_take : (p : ℕ) (t : List ℕ) → labels (take (p * record_words) t) ≡ take p (labels t)
labels_take p t = ap (map bare) (records_take p t) ∙ map_take p (records t)

pub labels_drop : (p : ℕ) (t : List ℕ) → labels (drop (p * record_words) t) ≡ drop p (labels t)
labels_drop p t = ap (map bare) (records_drop p t) ∙ map_drop p (records t)

pub labels_append : (p : ℕ) (s t : List ℕ) → length s ≡ p * record_words → labels (s ++ t) ≡ labels s ++ labels t
labels_append p s t e = ap (map bare) (records_append p s t e) ∙ map-append bare (records s) (records t)

-- LISTS OF WORDS whose label words agree have the same labels; where they agree but for record k's, the labels but for that one.
labels_same : (t t' : List ℕ) → length t' ≡ length t → ((j : ℕ) → bare (record_at t' j) ≡ bare (record_at t j)) → labels t' ≡ labels t
labels_same t t' long same =
    ext_get_or no_record (labels t') (labels t) (labels_length t' ∙ ap (λ (n : ℕ). n / record_words) long ∙ sym (labels_length t))
    (λ j h. label_at t' j h ∙ same j ∙ sym (label_at t j (omega (arith, labels_length t, labels_length t'))))

pub labels_put : (t t' : List ℕ) (k : ℕ) (x : Record) → RecordsFit (suc k) t → length t' ≡ length t → bare (record_at t' k) ≡ x
    → ((j : ℕ) → j ≢ k → bare (record_at t' j) ≡ bare (record_at t j)) → labels t' ≡ set (labels t) k x
labels_put t t' k x room long here other =
    ext_get_or no_record (labels t') (set (labels t) k x)
    (labels_length t' ∙ ap (λ (n : ℕ). n / record_words) long ∙ sym (labels_length t) ∙ sym (length-set (labels t) k x))
    (λ j h. label_at t' j h ∙ go j h (eqb j k) refl)
  where
    go : (j : ℕ) → j < length (labels t') → (b : Bool) → eqb j k ≡ b → bare (record_at t' j) ≡ get_or (set (labels t) k x) j no_record
    go j h true e =
        let q = eqb-true j k e in
        ap (λ (i : ℕ). bare (record_at t' i)) q
        ∙ here
        ∙ sym (get_or-set_same (labels t) k x no_record (omega (arith, labels_length t)))
        ∙ ap (λ (i : ℕ). get_or (set (labels t) k x) i no_record) (sym q)
    go j h false e =
        other j (eqb-false j k e)
        ∙ sym (label_at t j (omega (arith, labels_length t, labels_length t')))
        ∙ sym (get_or-set_other (labels t) k j x no_record (eqb-false j k e))

-- A record's words behind its upper end are no part of a label.
pub labels_kept : (t : List ℕ) (k o v : ℕ) → upper_word < o → o < record_words → labels (set t (k * record_words + o) v) ≡ labels t
labels_kept t k o v low high =
    labels_same t (set t (k * record_words + o) v) (length-set t (k * record_words + o) v)
    (λ j. λ i. label_from (other (j * record_words) (λ q. omega arith) i) (other (j * record_words + lower_word) (λ q. omega arith) i) (other (j * record_words + upper_word) (λ q. omega arith) i))
  where
    other : (m : ℕ) → m ≢ k * record_words + o → get_or (set t (k * record_words + o) v) m 0 ≡ get_or t m 0
    other m h = get_or-set_other t (k * record_words + o) m v 0 h

-- The first `count` labels, where the table has room for the records.
module _ (t : List ℕ) (count : ℕ) (room : RecordsFit count t) where
  pub labelled_length : length (labelled t count) ≡ count
  labelled_length = length-take-le count (labels t) (omega (arith, labels_length t))

  pub labelled_at : (k : ℕ) → k < count → get_or (labelled t count) k no_record ≡ bare (record_at t k)
  labelled_at k h = get_or-take count (labels t) k no_record h ∙ label_at t k (omega (arith, labels_length t))
