-- THE TURNS OF MERGING: what is left to merge, followed by what is stored behind it, is the merge of the two runs throughout. Assumes nothing.
use mathlib.Core.Path.{◌≡◌, refl, sym, ap, ◌∙◌}
use mathlib.Core.Logic.{◌⊎◌, inl, inr}
use mathlib.Core.List.{List, [], ◌∷◌, ◌++◌}
use mathlib.Core.Bool.{true, false, true≢false}
use Prim.Native.Nat.{ℕ, zero, suc, ◌+◌, ◌-◌, ◌*◌, ◌≤◌, ◌<◌, zero-le, suc-le-suc}
use native.Mathlib.Nat.{not-suc-le-zero}
use native.Mathlib.Omega.{arith}
use lib.ListN.{length, get_or, take, drop, set, take-append-drop, length-set}
use lib.Seq.{take-suc, append_snoc, get_or-take, take_at, drop_at, length-take-le, take-take, take-set-le, set_split}
use borrow.Author.Tests.{lt-ltb}
use Rattle.word.specs.Record.{Record, labels, no_record, labelled, record_words, RecordsFit, record_at}
use Rattle.finder.specs.Find.{key}
use Rattle.word.proofs.Labels.{labels_length, labelled_length, labelled_at}
use Rattle.search_runs.specs.Runs.{second_run, lower_key, after, merge, Merged}
use Rattle.search_runs.specs.Merging.{last_above}
use Rattle.search_runs.proofs.Views.{merge_zero, merge_length}
use Rattle.search_store.specs.Stored.{Stored}
use Rattle.search_store.proofs.Stored.{stored_beyond}

-- What is left to merge, and behind it what is stored.
pub record MergeState (xs ys rs₀ : List Record) (m p : ℕ) (rs : List Record) (i j : ℕ) : Type 0 where
  pub whole : merge xs ys i j ++ drop (i + j) rs ≡ merge xs ys m p ++ drop (m + p) rs₀
  pub front : take i rs ≡ take i xs
  pub long : length rs ≡ length rs₀

state_start : (ys rs₀ : List Record) (m p : ℕ) → MergeState (take m rs₀) ys rs₀ m p rs₀ m p
state_start ys rs₀ m p = record { whole = refl; front = sym (take-take m m rs₀ (omega arith)); long = refl }

state_end : (xs ys rs₀ : List Record) (m p : ℕ) (rs : List Record) (i j : ℕ) → j ≡ 0 → MergeState xs ys rs₀ m p rs i j → rs ≡ merge xs ys m p ++ drop (m + p) rs₀
state_end xs ys rs₀ m p rs i j e s =
    let z : i + j ≡ i = omega arith in
    let w : merge xs ys i 0 ++ drop i rs ≡ merge xs ys m p ++ drop (m + p) rs₀ = rw (z, e) at s.whole in
    sym (take-append-drop i rs) ∙ ap (λ (l : List Record). l ++ drop i rs) (s.front ∙ sym (merge_zero xs ys i)) ∙ w

drop_set : (rs : List Record) (n : ℕ) (x : Record) → n < length rs → drop n (set rs n x) ≡ x ∷ drop (suc n) rs
drop_set rs n x h = ap (drop n) (set_split rs n x h) ∙ drop_at (take n rs) (x ∷ drop (suc n) rs) n (length-take-le n rs (omega arith))

merge_main : (xs ys : List Record) (i j : ℕ) → after (get_or xs i no_record) (get_or ys j no_record) ≡ true
    → merge xs ys (suc i) (suc j) ≡ merge xs ys i (suc j) ++ (get_or xs i no_record ∷ [])
unfolding merge
merge_main xs ys i j e = rw e refl

merge_pending : (xs ys : List Record) (i j : ℕ) → j < length ys → (i ≡ 0) ⊎ (after (get_or xs (i - 1) no_record) (get_or ys j no_record) ≡ false)
    → merge xs ys i (suc j) ≡ merge xs ys i j ++ (get_or ys j no_record ∷ [])
unfolding merge
merge_pending xs ys zero j l e = take-suc ys j no_record l
merge_pending xs ys (suc i) j l (inl e) = absurd (let z : ◌<◌ 0 0 = omega arith in omega arith)
merge_pending xs ys (suc i) j l (inr e) =
    let z : suc i - 1 ≡ i = omega arith in
    let f : after (get_or xs i no_record) (get_or ys j no_record) ≡ false = rw z at e in
    rw f refl

-- Lists with the same front have the same records there.
front_at : (xs rs : List Record) (i : ℕ) → take (suc i) rs ≡ take (suc i) xs → get_or rs i no_record ≡ get_or xs i no_record
front_at xs rs i e = sym (get_or-take (suc i) rs i no_record (omega arith)) ∙ ap (λ (l : List Record). get_or l i no_record) e ∙ get_or-take (suc i) xs i no_record (omega arith)

front_less : (xs rs : List Record) (i : ℕ) → take (suc i) rs ≡ take (suc i) xs → take i rs ≡ take i xs
front_less xs rs i e = sym (take-take i (suc i) rs (omega arith)) ∙ ap (take i) e ∙ take-take i (suc i) xs (omega arith)

module _ (xs ys rs₀ : List Record) (m p : ℕ) (rs : List Record) where
  step_main : (i j : ℕ) → 0 < i → 0 < j → i + j ≤ length rs → after (get_or rs (i - 1) no_record) (get_or ys (j - 1) no_record) ≡ true → MergeState xs ys rs₀ m p rs i j
      → MergeState xs ys rs₀ m p (set rs (i - 1 + j) (get_or rs (i - 1) no_record)) (i - 1) j
  step_main zero j a b r e s = absurd (not-suc-le-zero a)
  step_main (suc i) zero a b r e s = absurd (not-suc-le-zero b)
  step_main (suc i) (suc j) a b r e s =
      let zi : suc i - 1 ≡ i = omega arith in
      let zj : suc j - 1 ≡ j = omega arith in
      let n : ℕ = i + suc j in
      let q : suc i + suc j ≡ suc n = omega arith in
      let f : get_or rs i no_record ≡ get_or xs i no_record = front_at xs rs i s.front in
      let e1 : after (get_or rs i no_record) (get_or ys j no_record) ≡ true = rw (zi, zj) at e in
      let e2 : after (get_or xs i no_record) (get_or ys j no_record) ≡ true = rw f at e1 in
      let w : merge xs ys (suc i) (suc j) ++ drop (suc n) rs ≡ merge xs ys m p ++ drop (m + p) rs₀ = rw q at s.whole in
      rw zi (record {
        whole =
            ap (λ (l : List Record). merge xs ys i (suc j) ++ l) (drop_set rs n (get_or rs i no_record) (omega arith) ∙ ap (λ (x : Record). x ∷ drop (suc n) rs) f)
            ∙ sym (append_snoc (merge xs ys i (suc j)) (get_or xs i no_record) (drop (suc n) rs))
            ∙ ap (λ (l : List Record). l ++ drop (suc n) rs) (sym (merge_main xs ys i j e2))
            ∙ w;
        front = take-set-le i rs n (get_or rs i no_record) (omega arith) ∙ front_less xs rs i s.front;
        long = length-set rs n (get_or rs i no_record) ∙ s.long;
      })

  step_pending : (i j : ℕ) → 0 < j → i + j ≤ length rs → j ≤ length ys → (i ≡ 0) ⊎ (after (get_or rs (i - 1) no_record) (get_or ys (j - 1) no_record) ≡ false) → MergeState xs ys rs₀ m p rs i j
      → MergeState xs ys rs₀ m p (set rs (i + (j - 1)) (get_or ys (j - 1) no_record)) i (j - 1)
  step_pending i zero b r l e s = absurd (not-suc-le-zero b)
  step_pending i (suc j) b r l e s =
      let zj : suc j - 1 ≡ j = omega arith in
      let q : i + suc j ≡ suc (i + j) = omega arith in
      let w : merge xs ys i (suc j) ++ drop (suc (i + j)) rs ≡ merge xs ys m p ++ drop (m + p) rs₀ = rw q at s.whole in
      let e1 : (i ≡ 0) ⊎ (after (get_or rs (i - 1) no_record) (get_or ys j no_record) ≡ false) = rw zj at e in
      rw zj (record {
        whole =
            ap (λ (z : List Record). merge xs ys i j ++ z) (drop_set rs (i + j) (get_or ys j no_record) (omega arith))
            ∙ sym (append_snoc (merge xs ys i j) (get_or ys j no_record) (drop (suc (i + j)) rs))
            ∙ ap (λ (z : List Record). z ++ drop (suc (i + j)) rs) (sym (merge_pending xs ys i j l (kept i s.front e1)))
            ∙ w;
        front = take-set-le i rs (i + j) (get_or ys j no_record) (omega arith) ∙ s.front;
        long = length-set rs (i + j) (get_or ys j no_record) ∙ s.long;
      })
    where
      kept : (i : ℕ) → take i rs ≡ take i xs → (i ≡ 0) ⊎ (after (get_or rs (i - 1) no_record) (get_or ys j no_record) ≡ false)
          → (i ≡ 0) ⊎ (after (get_or xs (i - 1) no_record) (get_or ys j no_record) ≡ false)
      kept zero f x = inl refl
      kept (suc i) f (inl x) = inl x
      kept (suc i) f (inr x) =
          let z : suc i - 1 ≡ i = omega arith in
          let y : after (get_or rs i no_record) (get_or ys j no_record) ≡ false = rw z at x in
          let g : get_or rs i no_record ≡ get_or xs i no_record = front_at xs rs i f in
          inr (rw z (rw g at y))

-- ---- The test before a turn

pub above_some : (rs : List Record) (i k : ℕ) → last_above rs i k ≡ true → 0 < i
above_some rs zero k h = absurd (true≢false (sym h))
above_some rs (suc i) k h = suc-le-suc zero-le

-- Against the key of y, the test says which of the two comes after.
module _ (rs : List Record) (y : Record) (k : ℕ) (e : k ≡ lower_key y) where
  above_yes : (i : ℕ) → last_above rs i k ≡ true → after (get_or rs (i - 1) no_record) y ≡ true
  above_yes zero h = absurd (true≢false (sym h))
  above_yes (suc i) h = rw (lt-ltb 0 (suc i) (suc-le-suc zero-le), e) at h

  above_no : (i : ℕ) → last_above rs i k ≡ false → (i ≡ 0) ⊎ (after (get_or rs (i - 1) no_record) y ≡ false)
  above_no zero h = inl refl
  above_no (suc i) h = inr (rw (lt-ltb 0 (suc i) (suc-le-suc zero-le), e) at h)

-- ---- The table in a turn

abbrev pub Inv : List ℕ → List ℕ → ℕ → ℕ → List ℕ → ℕ → ℕ → Type 0
Inv t₀ s m count t i j =
    MergeState (labelled t₀ m) (labelled s (count - m)) (labels t₀) m (count - m) (labels t) i j
    × (i ≤ m)
    × (j ≤ count - m)
    × (length t ≡ length t₀)
    × (drop (count * record_words) t ≡ drop (count * record_words) t₀)

module _ (t₀ s : List ℕ) (m count : ℕ) (mid : m ≤ count) (room : RecordsFit count t₀) (few : count * record_words ≤ m * record_words + length s) where
  pub inv_start : Inv t₀ s m count t₀ m (count - m)
  inv_start = (state_start (labelled s (count - m)) (labels t₀) m (count - m), omega arith, omega arith, refl, refl)

  pub inv_end : labelled s (count - m) ≡ second_run t₀ m count → (t : List ℕ) (i j : ℕ) → j ≡ 0 → Inv t₀ s m count t i j → Merged t₀ m count t
  inv_end same t i j e inv =
      let p : ℕ = count - m in
      let n : m + p ≡ count = omega arith in
      let long : length (merge (labelled t₀ m) (labelled s p) m p) ≡ count =
      merge_length (labelled t₀ m) (labelled s p) m p (omega (arith, labelled_length t₀ m (omega arith))) (omega (arith, labelled_length s p (omega arith))) ∙ n in
      let all = state_end (labelled t₀ m) (labelled s p) (labels t₀) m p (labels t) i j e inv.0 in
      record {
        merged = ap (take count) all ∙ take_at (merge (labelled t₀ m) (labelled s p) m p) (drop (m + p) (labels t₀)) count long ∙ ap (λ (ys : List Record). merge (labelled t₀ m) ys m p) same;
        beyond = inv.4;
        long = inv.3;
      }

  module _ (t : List ℕ) (i j k : ℕ) (inv : Inv t₀ s m count t i j) (some : 0 < j) (e : k ≡ key (record_at s (j - 1)).level (record_at s (j - 1)).lower) (t' : List ℕ) where
    abbrev last : Record
    last = get_or (labelled s (count - m)) (j - 1) no_record

    last_key : k ≡ lower_key last
    last_key = rw (labelled_at s (count - m) (omega arith) (j - 1) (omega (arith, inv.2))) e

    -- The turn with record x stored at number i + j, the last that is free.
    stored_inv : (i' j' : ℕ) (x : Record) → i' ≤ i → j' ≤ j → suc (i' + j') ≡ i + j
        → MergeState (labelled t₀ m) (labelled s (count - m)) (labels t₀) m (count - m) (set (labels t) (i' + j') x) i' j'
        → Stored t (i' + j') x t' → Inv t₀ s m count t' i' j'
    stored_inv i' j' x a b n st w = (
      rw w.there st,
      omega (arith, inv.1),
      omega (arith, inv.2),
      w.long ∙ inv.3,
      stored_beyond t t' (i' + j') count x w (omega (arith, inv.1, inv.2)) ∙ inv.4,
    )

    main_turn : last_above (labels t) i k ≡ true → Stored t (i - 1 + j) (get_or (labels t) (i - 1) no_record) t' → Inv t₀ s m count t' (i - 1) j
    main_turn h w =
        let i0 = above_some (labels t) i k h in
        stored_inv (i - 1) j (get_or (labels t) (i - 1) no_record) (omega arith) (omega arith) (omega arith)
        (step_main (labelled t₀ m) (labelled s (count - m)) (labels t₀) m (count - m) (labels t) i j i0 some (omega (arith, inv.1, inv.2, inv.3, labels_length t))
        (above_yes (labels t) last k last_key i h) inv.0) w

    pending_turn : last_above (labels t) i k ≡ false → Stored t (i + (j - 1)) (get_or (labels s) (j - 1) no_record) t' → Inv t₀ s m count t' i (j - 1)
    pending_turn h w =
        let z : get_or (labelled s (count - m)) (j - 1) no_record ≡ get_or (labels s) (j - 1) no_record = get_or-take (count - m) (labels s) (j - 1) no_record (omega (arith, inv.2)) in
        stored_inv i (j - 1) (get_or (labelled s (count - m)) (j - 1) no_record) (omega arith) (omega arith) (omega arith)
        (step_pending (labelled t₀ m) (labelled s (count - m)) (labels t₀) m (count - m) (labels t) i j some (omega (arith, inv.1, inv.2, inv.3, labels_length t))
        (omega (arith, inv.2, labelled_length s (count - m) (omega arith))) (above_no (labels t) last k last_key i h) inv.0)
        (rw z w)

  -- The turns of record j of the second run, which is the last that is left of it.
  module _ (t : List ℕ) (i j k : ℕ) (inv : Inv t₀ s m count t i (j + 1)) (e : k ≡ key (record_at s j).level (record_at s j).lower) (t' : List ℕ) where
    last_is : j + 1 - 1 ≡ j
    last_is = omega arith

    pub turn_main : last_above (labels t) i k ≡ true → Stored t (i - 1 + j + 1) (get_or (labels t) (i - 1) no_record) t' → Inv t₀ s m count t' (i - 1) (j + 1)
    turn_main h w = let to : i - 1 + (j + 1) ≡ i - 1 + j + 1 = omega arith in main_turn t i (j + 1) k inv (omega arith) (rw last_is e) t' h (rw to w)

    pub turn_pending : last_above (labels t) i k ≡ false → Stored t (i + j) (get_or (labels s) j no_record) t' → Inv t₀ s m count t' i j
    turn_pending h w = rw last_is at (pending_turn t i (j + 1) k inv (omega arith) (rw last_is e) t' h (rw last_is w))
