-- LABELS STORED AND MOVED in a flat table. What else the records hold is open. Assumes nothing.
use Rattle.std.specs.Prelude.{◌≡◌, List, ◌++◌, ℕ, suc, ◌-◌, ◌*◌, length, take, drop, set}
use Rattle.word.specs.Record.{Record, record_words, labels}

-- The label x stands at number k: no other label has changed, and no word behind the record.
pub record Stored (t : List ℕ) (k : ℕ) (x : Record) (t' : List ℕ) : Type 0 where
  pub there : labels t' ≡ set (labels t) k x
  pub beyond : drop (suc k * record_words) t' ≡ drop (suc k * record_words) t
  pub long : length t' ≡ length t

-- The labels from number p up to n moved up by one.
abbrev pub raised : List Record → ℕ → ℕ → List Record
raised xs p n = take (suc p) xs ++ (take (n - p) (drop p xs) ++ drop (suc n) xs)

-- So in a table; no word behind their records has changed.
pub record Raised (t : List ℕ) (p n : ℕ) (t' : List ℕ) : Type 0 where
  pub there : labels t' ≡ raised (labels t) p n
  pub beyond : drop (suc n * record_words) t' ≡ drop (suc n * record_words) t
  pub long : length t' ≡ length t
