-- A RECORD PUT INTO THE SECOND RUN: the words from the second run on as records, and the table with other words there. Assumes nothing.
use mathlib.Core.Path.{◌≡◌, sym, ap, ◌∙◌}
use mathlib.Core.List.{List, ◌++◌, append-nil}
use Prim.Native.Nat.{ℕ, suc, ◌+◌, ◌-◌, ◌*◌, ◌≤◌}
use native.Mathlib.Omega.{arith}
use lib.ListN.{length, take, drop, length-drop, drop_of_length-le}
use lib.Seq.{take_at, take_all, drop_at, drop-drop, length-take-le}
use borrow.Rule.Slice.PartMut.{put_mid, same_len_mid}
use Rattle.word.specs.Record.{Record, labels, labelled, record_words, RecordsFit, label_from}
use Rattle.finder.specs.Find.{gap_in}
use Rattle.search_store.specs.Insert.{insert_at}
use Rattle.word.proofs.Labels.{labels_length, labels_take, labels_drop, labels_append}
use Rattle.search_runs.specs.Runs.{second_run, PutIn}

module _ (t : List ℕ) (m count : ℕ) (mid : m ≤ count) (room : RecordsFit (suc count) t) where
  -- The words from the second run on.
  abbrev tail : List ℕ
  tail = take (length t - m * record_words) (drop (m * record_words) t)

  pub tail_length : length tail ≡ length t - m * record_words
  tail_length = length-take-le (length t - m * record_words) (drop (m * record_words) t) (omega (arith, length-drop (m * record_words) t))

  tail_is : tail ≡ drop (m * record_words) t
  tail_is = take_all (length t - m * record_words) (drop (m * record_words) t) (omega (arith, length-drop (m * record_words) t))

  pub tail_used : labelled tail (count - m) ≡ second_run t m count
  tail_used = ap (λ (l : List ℕ). labelled l (count - m)) tail_is ∙ ap (take (count - m)) (labels_drop m t)

  -- The table with ys from the second run on.
  abbrev changed : List ℕ → List ℕ
  changed ys = put_mid (m * record_words) (length t - m * record_words) t ys

  changed_is : (ys : List ℕ) → changed ys ≡ take (m * record_words) t ++ ys
  changed_is ys =
      let h : length (drop (m * record_words) t) ≤ length t - m * record_words = omega (arith, length-drop (m * record_words) t) in
      rw (drop_of_length-le (drop (m * record_words) t) h, append-nil)

  front_length : length (take (m * record_words) t) ≡ m * record_words
  front_length = length-take-le (m * record_words) t (omega arith)

  changed_records : (ys : List ℕ) → labels (changed ys) ≡ take m (labels t) ++ labels ys
  changed_records ys =
      ap labels (changed_is ys) ∙ labels_append m (take (m * record_words) t) ys front_length ∙ ap (λ (q : List Record). q ++ labels ys) (labels_take m t)

  -- Where ys are as the table's own words from a place on, so is the table.
  changed_beyond : (ys : List ℕ) (n : ℕ) → drop n ys ≡ drop n tail → drop (m * record_words + n) (changed ys) ≡ drop (m * record_words + n) t
  changed_beyond ys n e =
      sym (drop-drop n (m * record_words) (changed ys))
      ∙ ap (drop n) (ap (drop (m * record_words)) (changed_is ys) ∙ drop_at (take (m * record_words) t) ys (m * record_words) front_length)
      ∙ e
      ∙ ap (drop n) tail_is
      ∙ drop-drop n (m * record_words) t

  pub put_second : (level r lower upper p : ℕ) (ys : List ℕ) → p ≡ gap_in (labelled tail (count - m)) level r
      → labelled ys (count - m + 1) ≡ insert_at p (label_from level lower upper) (labelled tail (count - m))
      → drop (suc (count - m) * record_words) ys ≡ drop (suc (count - m) * record_words) tail
      → length ys ≡ length tail
      → PutIn t m count level r lower upper (changed ys)
  put_second level r lower upper p ys is put past long =
      let first : length (take m (labels t)) ≡ m = length-take-le m (labels t) (omega (arith, labels_length t)) in
      let n : count + 1 - m ≡ count - m + 1 = omega arith in
      let behind : suc count * record_words ≡ m * record_words + (suc (count - m) * record_words) = omega arith in
      record {
        main = ap (take m) (changed_records ys) ∙ take_at (take m (labels t)) (labels ys) m first;
        pending =
            ap (λ (q : List Record). take (count + 1 - m) (drop m q)) (changed_records ys)
            ∙ ap (take (count + 1 - m)) (drop_at (take m (labels t)) (labels ys) m first)
            ∙ ap (λ (k : ℕ). labelled ys k) n
            ∙ put
            ∙ ap (λ (k : ℕ). insert_at k (label_from level lower upper) (labelled tail (count - m))) is
            ∙ ap (λ (xs : List Record). insert_at (gap_in xs level r) (label_from level lower upper) xs) tail_used;
        beyond = rw behind (changed_beyond ys (suc (count - m) * record_words) past);
        long = same_len_mid (m * record_words) (length t - m * record_words) t ys long;
      }
