-- Records as words: the first records of a table are its first words, whatever stands behind. Assumes nothing.
use mathlib.Core.Path.{◌≡◌, sym, ap, ◌∙◌}
use mathlib.Core.List.{List, [], ◌∷◌, ◌++◌}
use Prim.Native.Nat.{ℕ, zero, suc, ◌*◌}
use native.Mathlib.Omega.{arith}
use lib.ListN.{take}
use lib.Seq.{take-append-le}
use Rattle.word.specs.Record.{flat, records, labels, used, labelled, record_words, RecordsFit}
use Rattle.word.proofs.Flat.{record_next, records_take}
use Rattle.word.proofs.Labels.{labels_take}

-- the words of the first n records
pub used_words : (t : List ℕ) (n : ℕ) → RecordsFit n t → take (n * record_words) t ≡ flat (used t n)
unfolding flat records
used_words t zero h = let e : 0 * record_words ≡ 0 = omega arith in ap (λ (k : ℕ). take k t) e
used_words [] (suc n) h = absurd (omega arith)
used_words (a ∷ []) (suc n) h = absurd (omega arith)
used_words (a ∷ b ∷ []) (suc n) h = absurd (omega arith)
used_words (a ∷ b ∷ c ∷ []) (suc n) h = absurd (omega arith)
used_words (a ∷ b ∷ c ∷ d ∷ []) (suc n) h = absurd (omega arith)
used_words (a ∷ b ∷ c ∷ d ∷ e ∷ t) (suc n) h =
    ap (λ (k : ℕ). take k (a ∷ b ∷ c ∷ d ∷ e ∷ t)) (record_next n) ∙ ap (λ (ws : List ℕ). a ∷ b ∷ c ∷ d ∷ e ∷ ws) (used_words t n (omega arith))

module _ (t r : List ℕ) (n : ℕ) (h : RecordsFit n t) where
  same : take (n * record_words) (t ++ r) ≡ take (n * record_words) t
  same = take-append-le (n * record_words) t r h

  -- the first n records of a table with room for them, and their labels
  pub used_append : used (t ++ r) n ≡ used t n
  used_append = sym (records_take n (t ++ r)) ∙ ap records same ∙ records_take n t

  pub labelled_append : labelled (t ++ r) n ≡ labelled t n
  labelled_append = sym (labels_take n (t ++ r)) ∙ ap labels same ∙ labels_take n t
