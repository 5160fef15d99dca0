-- TWO RUNS OF RECORDS in one table: the first m records, in order, and those from m up to count, in order. Read together they are one list in order.
-- Assumes nothing.
use Rattle.std.specs.Prelude.{◌≡◌, ◌⊎◌, List, [], ◌∷◌, ◌++◌, Bool, cond, ℕ, zero, suc, ◌+◌, ◌-◌, ◌*◌, ◌≤◌, ltb, length, take, drop, get_or}
use Rattle.word.specs.Record.{Record, labels, no_record, labelled, Among, record_words, RecordsFit, label_from}
use Rattle.finder.specs.Find.{gap_in, key}
use Rattle.search_ordered.specs.Order.{Before, Sorted}
use Rattle.search_store.specs.Insert.{insert_at}

-- The most records that the second run may have.
abbrev pub longest : ℕ
longest = 512

-- The second run: the records from m up to count.
abbrev pub second_run : List ℕ → ℕ → ℕ → List Record
second_run t m count = take (count - m) (drop m (labels t))

-- The words of the second run.
abbrev pub run_words : List ℕ → ℕ → ℕ → List ℕ
run_words t m count = take (count * record_words - m * record_words) (drop (m * record_words) t)

-- Level and lower end of a record as one number.
abbrev pub lower_key : Record → ℕ
lower_key x = key x.level x.lower

-- x comes after y: by level, then by lower end.
abbrev pub after : Record → Record → Bool
after x y = ltb (lower_key y) (lower_key x)

-- The first i records of xs and the first j of ys as one list: of the two last ones, the later stands last.
unfoldable pub merge : List Record → List Record → ℕ → ℕ → List Record
merge xs ys zero j = take j ys
merge xs ys (suc i) zero = take (suc i) xs
merge xs ys (suc i) (suc j) =
    cond (after (get_or xs i no_record) (get_or ys j no_record)) (merge xs ys i (suc j) ++ (get_or xs i no_record ∷ [])) (merge xs ys (suc i) j ++ (get_or ys j no_record ∷ []))

-- The records of both runs as one list.
abbrev pub both_runs : List ℕ → ℕ → ℕ → List Record
both_runs t m count = merge (labelled t m) (second_run t m count) m (count - m)

-- Every record of the one lies before or after every record of the other.
abbrev pub Apart : List Record → List Record → Type 0
Apart xs ys = (x y : Record) → Among x xs → Among y ys → Before x y ⊎ Before y x

-- Both runs lie in the table and are in order, and the second fits into w words.
pub record Runs (t : List ℕ) (m count w : ℕ) : Type 0 where
  pub room : RecordsFit count t
  pub mid : m ≤ count
  pub few : count * record_words ≤ m * record_words + w
  pub main : Sorted (labelled t m)
  pub pending : Sorted (second_run t m count)

-- The first count records are both runs as one list; no word behind them has changed.
pub record Merged (t : List ℕ) (m count : ℕ) (t' : List ℕ) : Type 0 where
  pub merged : labelled t' count ≡ both_runs t m count
  pub beyond : drop (count * record_words) t' ≡ drop (count * record_words) t
  pub long : length t' ≡ length t

-- The table is as it was, or its runs are merged; the first run has k records, and in the second there is room for one more within w words.
pub record Settled (t : List ℕ) (m count w : ℕ) (t' : List ℕ) (k : ℕ) : Type 0 where
  pub within : k ≤ count
  pub free : suc count * record_words ≤ k * record_words + w
  pub long : length t' ≡ length t
  pub way : ((k ≡ m) × (t' ≡ t)) ⊎ ((k ≡ count) × Merged t m count t')

-- A label was put into the second run, at the gap of the remainder r; no label before the run, and no word behind the run as it is then, has changed.
pub record PutIn (t : List ℕ) (m count level r lower upper : ℕ) (t' : List ℕ) : Type 0 where
  pub main : labelled t' m ≡ labelled t m
  pub pending : second_run t' m (count + 1) ≡ insert_at (gap_in (second_run t m count) level r) (label_from level lower upper) (second_run t m count)
  pub beyond : drop (suc count * record_words) t' ≡ drop (suc count * record_words) t
  pub long : length t' ≡ length t
