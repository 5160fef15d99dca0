-- A LABEL STORED: what the stores of its words do to the labels, to the words behind and to the length. Assumes nothing.
use mathlib.Core.Path.{◌≡◌, ◌∙◌}
use mathlib.Core.Logic.{◌≢◌}
use mathlib.Core.List.{List}
use Prim.Native.Nat.{ℕ, suc, ◌+◌, ◌*◌, ◌≤◌}
use native.Mathlib.Omega.{arith}
use lib.ListN.{length, get_or, drop, set, length-set}
use lib.Seq.{drop-set-lt, get_or-set_same, get_or-set_other}
use Rattle.word.specs.Record.{Record, record_words, lower_word, upper_word, first_word, RecordsFit, no_record, record_at, label_from, bare, labels}
use Rattle.word.proofs.Kept.{rest_later}
use Rattle.word.proofs.Labels.{labels_length, label_at, labels_put, labels_kept}
use Rattle.search_store.specs.Stored.{Stored}

-- The label that is read, word by word.
pub words_at : (s : List ℕ) (n : ℕ) → RecordsFit (suc n) s → get_or (labels s) n no_record ≡ bare (record_at s n)
words_at s n h = label_at s n (omega (arith, labels_length s))

module _ (t : List ℕ) (k level lower upper : ℕ) (room : RecordsFit (suc k) t) where
  abbrev b : ℕ
  b = k * record_words

  abbrev one : List ℕ
  one = set t b level

  abbrev two : List ℕ
  two = set one (b + lower_word) lower

  abbrev three : List ℕ
  three = set two (b + upper_word) upper

  three_long : length three ≡ length t
  three_long = length-set two (b + upper_word) upper ∙ length-set one (b + lower_word) lower ∙ length-set t b level

  -- the three words
  level_is : get_or three b 0 ≡ level
  level_is =
      get_or-set_other two (b + upper_word) b upper 0 (λ q. omega arith)
      ∙ get_or-set_other one (b + lower_word) b lower 0 (λ q. omega arith)
      ∙ get_or-set_same t b level 0 (omega arith)

  lower_is : get_or three (b + lower_word) 0 ≡ lower
  lower_is =
      get_or-set_other two (b + upper_word) (b + lower_word) upper 0 (λ q. omega arith)
      ∙ get_or-set_same one (b + lower_word) lower 0 (omega (arith, length-set t b level))

  upper_is : get_or three (b + upper_word) 0 ≡ upper
  upper_is = get_or-set_same two (b + upper_word) upper 0 (omega (arith, length-set t b level, length-set one (b + lower_word) lower))

  -- and every other
  other : (m : ℕ) → m ≢ b → m ≢ b + lower_word → m ≢ b + upper_word → get_or three m 0 ≡ get_or t m 0
  other m x y z = get_or-set_other two (b + upper_word) m upper 0 z ∙ get_or-set_other one (b + lower_word) m lower 0 y ∙ get_or-set_other t b m level 0 x

  others : (j : ℕ) → j ≢ k → bare (record_at three j) ≡ bare (record_at t j)
  others j h =
      λ i. label_from
      (other (j * record_words) (λ q. h (omega arith)) (λ q. omega arith) (λ q. omega arith) i)
      (other (j * record_words + lower_word) (λ q. omega arith) (λ q. h (omega arith)) (λ q. omega arith) i)
      (other (j * record_words + upper_word) (λ q. omega arith) (λ q. omega arith) (λ q. h (omega arith)) i)

  -- THE STORES of a label's words
  pub label_stored : Stored t k (label_from level lower upper) three
  label_stored = record {
    there = labels_put t three k (label_from level lower upper) room three_long (λ i. label_from (level_is i) (lower_is i) (upper_is i)) others;
    beyond =
        drop-set-lt (suc k * record_words) two (b + upper_word) upper (omega arith)
        ∙ drop-set-lt (suc k * record_words) one (b + lower_word) lower (omega arith)
        ∙ drop-set-lt (suc k * record_words) t b level (omega arith);
    long = three_long;
  }

-- A store of the same record's first place is none of a label.
pub first_stored : (t t' : List ℕ) (k v : ℕ) (x : Record) → Stored t k x t' → Stored t k x (set t' (k * record_words + first_word) v)
first_stored t t' k v x s = record {
  there = labels_kept t' k first_word v (omega arith) (omega arith) ∙ s.there;
  beyond = drop-set-lt (suc k * record_words) t' (k * record_words + first_word) v (omega arith) ∙ s.beyond;
  long = length-set t' (k * record_words + first_word) v ∙ s.long;
}

-- Behind a record that lies further on, too, nothing has changed.
pub stored_beyond : (t t' : List ℕ) (k n : ℕ) (x : Record) → Stored t k x t' → suc k ≤ n → drop (n * record_words) t' ≡ drop (n * record_words) t
stored_beyond t t' k n x s h = rest_later t t' (suc k * record_words) (n * record_words) (omega arith) s.beyond
