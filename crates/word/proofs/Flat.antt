-- RECORDS OF A FLAT TABLE: how many there are, that record k is the words that begin at its place, and that a cut at a record is one at
-- its place. By induction, a record's words at a time. Assumes nothing.
use mathlib.Core.Path.{◌≡◌, refl, ap, ◌∙◌}
use mathlib.Core.List.{List, [], ◌∷◌, ◌++◌}
use Prim.Native.Nat.{ℕ, zero, suc, ◌+◌, ◌*◌, ◌/◌, ◌<◌}
use native.Mathlib.Nat.{not-suc-le-zero, le_of_suc-le-suc}
use native.Mathlib.Omega.{arith}
use lib.ListN.{length, get_or, take, drop}
use lib.Seq.{get_or-take, length-take-le}
use Rattle.word.specs.Record.{Record, record_words, lower_word, upper_word, first_word, entering_word, RecordsFit, record_from, records, no_record, record_at, used}

pub records_length : (t : List ℕ) → length (records t) ≡ length t / record_words
unfolding records
records_length [] = refl
records_length (a ∷ []) = refl
records_length (a ∷ b ∷ []) = refl
records_length (a ∷ b ∷ c ∷ []) = refl
records_length (a ∷ b ∷ c ∷ d ∷ []) = refl
records_length (a ∷ b ∷ c ∷ d ∷ e ∷ t) = let h = records_length t in omega arith

-- Past a list of words, an index is its length less.
pub get_d_past : (s t : List ℕ) (m n : ℕ) → m ≡ length s + n → get_or (s ++ t) m 0 ≡ get_or t n 0
get_d_past [] t m n e = let q : m ≡ n = omega arith in ap (λ (i : ℕ). get_or t i 0) q
get_d_past (x ∷ s) t m n e =
    let q : m ≡ suc (length s + n) = omega arith in
    ap (λ (i : ℕ). get_or (x ∷ s ++ t) i 0) q ∙ get_d_past s t (length s + n) n refl

-- RECORD k of the table is the words from its place on.
pub record_at_lem : (t : List ℕ) (k : ℕ) (x : Record) → k < length (records t) → get_or (records t) k x ≡ record_at t k
unfolding records
record_at_lem [] k x h = absurd (not-suc-le-zero h)
record_at_lem (a ∷ []) k x h = absurd (not-suc-le-zero h)
record_at_lem (a ∷ b ∷ []) k x h = absurd (not-suc-le-zero h)
record_at_lem (a ∷ b ∷ c ∷ []) k x h = absurd (not-suc-le-zero h)
record_at_lem (a ∷ b ∷ c ∷ d ∷ []) k x h = absurd (not-suc-le-zero h)
record_at_lem (a ∷ b ∷ c ∷ d ∷ e ∷ t) zero x h = refl
record_at_lem (a ∷ b ∷ c ∷ d ∷ e ∷ t) (suc k) x h =
    let i = record_at_lem t k x (le_of_suc-le-suc h) in
    let front : List ℕ = a ∷ b ∷ c ∷ d ∷ e ∷ [] in
    let e0 = get_d_past front t (suc k * record_words) (k * record_words) (omega arith) in
    let e1 = get_d_past front t (suc k * record_words + lower_word) (k * record_words + lower_word) (omega arith) in
    let e2 = get_d_past front t (suc k * record_words + upper_word) (k * record_words + upper_word) (omega arith) in
    let e3 = get_d_past front t (suc k * record_words + first_word) (k * record_words + first_word) (omega arith) in
    let e4 = get_d_past front t (suc k * record_words + entering_word) (k * record_words + entering_word) (omega arith) in
    cc

-- The next record's place.
pub record_next : (p : ℕ) → suc p * record_words ≡ suc (suc (suc (suc (suc (p * record_words)))))
record_next p = omega arith

-- THE CUT at record p is the one at its place.
pub records_take : (p : ℕ) (t : List ℕ) → records (take (p * record_words) t) ≡ take p (records t)
unfolding records
records_take zero t = refl
records_take (suc p) [] = rw record_next refl
records_take (suc p) (x ∷ []) = rw record_next refl
records_take (suc p) (x ∷ y ∷ []) = rw record_next refl
records_take (suc p) (x ∷ y ∷ z ∷ []) = rw record_next refl
records_take (suc p) (x ∷ y ∷ z ∷ w ∷ []) = rw record_next refl
records_take (suc p) (x ∷ y ∷ z ∷ w ∷ v ∷ t) = rw record_next (ap (λ (r : List Record). record_from x y z w v ∷ r) (records_take p t))

pub records_drop : (p : ℕ) (t : List ℕ) → records (drop (p * record_words) t) ≡ drop p (records t)
unfolding records
records_drop zero t = refl
records_drop (suc p) [] = rw record_next refl
records_drop (suc p) (x ∷ []) = rw record_next refl
records_drop (suc p) (x ∷ y ∷ []) = rw record_next refl
records_drop (suc p) (x ∷ y ∷ z ∷ []) = rw record_next refl
records_drop (suc p) (x ∷ y ∷ z ∷ w ∷ []) = rw record_next refl
records_drop (suc p) (x ∷ y ∷ z ∷ w ∷ v ∷ t) = rw record_next (records_drop p t)

pub records_append : (p : ℕ) (s t : List ℕ) → length s ≡ p * record_words → records (s ++ t) ≡ records s ++ records t
unfolding records
records_append zero [] t e = refl
records_append zero (x ∷ s) t e = absurd (let z : ◌<◌ 0 0 = omega arith in omega arith)
records_append (suc p) [] t e = refl
records_append (suc p) (x ∷ []) t e = absurd (let z : ◌<◌ 0 0 = omega arith in omega arith)
records_append (suc p) (x ∷ y ∷ []) t e = absurd (let z : ◌<◌ 0 0 = omega arith in omega arith)
records_append (suc p) (x ∷ y ∷ z ∷ []) t e = absurd (let z : ◌<◌ 0 0 = omega arith in omega arith)
records_append (suc p) (x ∷ y ∷ z ∷ w ∷ []) t e = absurd (let z : ◌<◌ 0 0 = omega arith in omega arith)
records_append (suc p) (x ∷ y ∷ z ∷ w ∷ v ∷ s) t e = ap (λ (r : List Record). record_from x y z w v ∷ r) (records_append p s t (omega arith))

-- The first `count` records, where the table has room for them.
module _ (t : List ℕ) (count : ℕ) (room : RecordsFit count t) where
  pub used_length : length (used t count) ≡ count
  used_length = length-take-le count (records t) (omega (arith, records_length t))

  pub used_at : (k : ℕ) → k < count → get_or (used t count) k no_record ≡ record_at t k
  used_at k h = get_or-take count (records t) k no_record h ∙ record_at_lem t k no_record (omega (arith, records_length t))
