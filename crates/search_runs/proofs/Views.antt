-- TWO RUNS AS ONE LIST: merging gives as many records as both have, the records of both and no other, in order where both are in order and apart. By
-- induction on both numbers, the last record at a time. Assumes nothing.
use mathlib.Core.Path.{◌≡◌, refl, sym, ap, subst, ◌∙◌}
use mathlib.Core.Logic.{◌⊎◌, inl, inr, ⊎_elim}
use mathlib.Core.List.{List, [], ◌∷◌, ◌++◌}
use mathlib.Core.Bool.{Bool, true, false, cond}
use Prim.Native.Nat.{ℕ, zero, suc, ◌+◌, ◌-◌, ◌*◌, ◌≤◌}
use native.Mathlib.Omega.{arith}
use lib.ListN.{length, get_or, take, drop, length-append, length-drop}
use lib.Seq.{take-suc, take_all, take-take, take-add, take_at, length-take-le}
use borrow.Author.Tests.{ltb-true, ltb-false}
use Rattle.word.specs.Record.{Record, labels, no_record, labelled, Among, record_words, RecordsFit}
use Rattle.search_ordered.specs.Order.{Before, Proper, Sorted}
use Rattle.search_store.specs.Copy.{copied}
use Rattle.word.proofs.Labels.{labels_length, labels_take, labels_drop, labelled_length}
use Rattle.search_runs.specs.Runs.{second_run, run_words, lower_key, after, merge, both_runs, Apart, Runs, Merged, Settled}
use Rattle.search_runs.proofs.Members.{among_left, among_right, among_cases, snoc_from, snoc_to, last_from, last_to, proper_in, sorted_snoc, sorted_unsnoc}

pub merge_zero : (xs ys : List Record) (i : ℕ) → merge xs ys i 0 ≡ take i xs
unfolding merge
merge_zero xs ys zero = refl
merge_zero xs ys (suc i) = refl

pub merge_length : (xs ys : List Record) (i j : ℕ) → i ≤ length xs → j ≤ length ys → length (merge xs ys i j) ≡ i + j
unfolding merge
merge_length xs ys zero j a b = let h = length-take-le j ys b in omega arith
merge_length xs ys (suc i) zero a b = let h = length-take-le (suc i) xs a in omega arith
merge_length xs ys (suc i) (suc j) a b =
    go (after (get_or xs i no_record) (get_or ys j no_record)) (merge_length xs ys i (suc j) (omega arith) b) (merge_length xs ys (suc i) j a (omega arith))
  where
    go : (q : Bool) → length (merge xs ys i (suc j)) ≡ i + suc j → length (merge xs ys (suc i) j) ≡ suc i + j
        → length (cond q (merge xs ys i (suc j) ++ (get_or xs i no_record ∷ [])) (merge xs ys (suc i) j ++ (get_or ys j no_record ∷ []))) ≡ suc i + suc j
    go true h k = let l = length-append (merge xs ys i (suc j)) (get_or xs i no_record ∷ []) in omega arith
    go false h k = let l = length-append (merge xs ys (suc i) j) (get_or ys j no_record ∷ []) in omega arith

-- THE RECORDS of a merge are those of both lists.
pub merge_from : (xs ys : List Record) (i j : ℕ) → i ≤ length xs → j ≤ length ys → (z : Record) → Among z (merge xs ys i j) → Among z (take i xs) ⊎ Among z (take j ys)
unfolding merge
merge_from xs ys zero j a b z m = inr m
merge_from xs ys (suc i) zero a b z m = inl m
merge_from xs ys (suc i) (suc j) a b z m =
    go (after (get_or xs i no_record) (get_or ys j no_record)) m (merge_from xs ys i (suc j) (omega arith) b z) (merge_from xs ys (suc i) j a (omega arith) z)
  where
    go : (q : Bool) → Among z (cond q (merge xs ys i (suc j) ++ (get_or xs i no_record ∷ [])) (merge xs ys (suc i) j ++ (get_or ys j no_record ∷ [])))
        → (Among z (merge xs ys i (suc j)) → Among z (take i xs) ⊎ Among z (take (suc j) ys))
        → (Among z (merge xs ys (suc i) j) → Among z (take (suc i) xs) ⊎ Among z (take j ys))
        → Among z (take (suc i) xs) ⊎ Among z (take (suc j) ys)
    go true w f g = ⊎_elim (λ u. ⊎_elim (λ v. inl (last_to xs i a z (inl v))) inr (f u)) (λ e. inl (last_to xs i a z (inr e))) (snoc_from (merge xs ys i (suc j)) (get_or xs i no_record) z w)
    go false w f g = ⊎_elim (λ u. ⊎_elim inl (λ v. inr (last_to ys j b z (inl v))) (g u)) (λ e. inr (last_to ys j b z (inr e))) (snoc_from (merge xs ys (suc i) j) (get_or ys j no_record) z w)

pub merge_to : (xs ys : List Record) (i j : ℕ) → i ≤ length xs → j ≤ length ys → (z : Record) → Among z (take i xs) ⊎ Among z (take j ys) → Among z (merge xs ys i j)
unfolding merge
merge_to xs ys zero j a b z m = ⊎_elim (λ e. absurd e) (λ w. w) m
merge_to xs ys (suc i) zero a b z m = ⊎_elim (λ w. w) (λ e. absurd e) m
merge_to xs ys (suc i) (suc j) a b z m =
    go (after (get_or xs i no_record) (get_or ys j no_record)) (merge_to xs ys i (suc j) (omega arith) b z) (merge_to xs ys (suc i) j a (omega arith) z)
  where
    go : (q : Bool) → (Among z (take i xs) ⊎ Among z (take (suc j) ys) → Among z (merge xs ys i (suc j)))
        → (Among z (take (suc i) xs) ⊎ Among z (take j ys) → Among z (merge xs ys (suc i) j))
        → Among z (cond q (merge xs ys i (suc j) ++ (get_or xs i no_record ∷ [])) (merge xs ys (suc i) j ++ (get_or ys j no_record ∷ [])))
    go true f g = snoc_to (merge xs ys i (suc j)) (get_or xs i no_record) z (⊎_elim (λ u. ⊎_elim (λ v. inl (f (inl v))) inr (last_from xs i a z u)) (λ u. inl (f (inr u))) m)
    go false f g = snoc_to (merge xs ys (suc i) j) (get_or ys j no_record) z (⊎_elim (λ u. inl (g (inl u))) (λ u. ⊎_elim (λ v. inl (g (inr v))) inr (last_from ys j b z u)) m)

-- ---- Order

-- Of two records that are apart, the one with the greater key comes after.
apart_after : (x z : Record) → Proper x → Proper z → lower_key z ≤ lower_key x → Before x z ⊎ Before z x → Before z x
apart_after x z p q l (inr b) = b
apart_after x z p q l (inl b) = absurd (omega arith)

-- A record whose key is not less than that of the last of some records in order comes after all of them that it is apart from.
last_after : (zs : List Record) (y x : Record) → Sorted (zs ++ (y ∷ [])) → Proper x → lower_key y ≤ lower_key x → (z : Record) → Among z (zs ++ (y ∷ [])) → Before x z ⊎ Before z x → Before z x
last_after zs y x s p l z m = apart_after x z p (proper_in (zs ++ (y ∷ [])) s z m) (⊎_elim
    (λ u. let h = (sorted_unsnoc zs y s).2 z u in let q = proper_in (zs ++ (y ∷ [])) s z m in let r = (sorted_unsnoc zs y s).1 in omega arith)
    (λ e. subst (λ (w : Record). lower_key w ≤ lower_key x) (sym e) l)
    (snoc_from zs y z m))

pub merge_sorted : (xs ys : List Record) (i j : ℕ) → i ≤ length xs → j ≤ length ys → Sorted (take i xs) → Sorted (take j ys) → Apart (take i xs) (take j ys) → Sorted (merge xs ys i j)
unfolding merge
merge_sorted xs ys zero j a b s r apart = r
merge_sorted xs ys (suc i) zero a b s r apart = s
merge_sorted xs ys (suc i) (suc j) a b s r apart =
    go (after x y) refl
    (λ s' p. merge_sorted xs ys i (suc j) (omega arith) b s' r p)
    (λ r' p. merge_sorted xs ys (suc i) j a (omega arith) s r' p)
  where
    x : Record
    x = get_or xs i no_record

    y : Record
    y = get_or ys j no_record

    sx : Sorted (take i xs ++ (x ∷ []))
    sx = subst Sorted (take-suc xs i no_record a) s

    sy : Sorted (take j ys ++ (y ∷ []))
    sy = subst Sorted (take-suc ys j no_record b) r

    go : (q : Bool) → after x y ≡ q
        → (Sorted (take i xs) → Apart (take i xs) (take (suc j) ys) → Sorted (merge xs ys i (suc j)))
        → (Sorted (take j ys) → Apart (take (suc i) xs) (take j ys) → Sorted (merge xs ys (suc i) j))
        → Sorted (cond q (merge xs ys i (suc j) ++ (x ∷ [])) (merge xs ys (suc i) j ++ (y ∷ [])))
    go true e f g =
        let u = sorted_unsnoc (take i xs) x sx in
        let l : lower_key y ≤ lower_key x = let h = ltb-true (lower_key y) (lower_key x) e in omega arith in
        sorted_snoc (merge xs ys i (suc j)) x (f u.0 (λ p q v w. apart p q (last_to xs i a p (inl v)) w)) u.1
        (λ z m. ⊎_elim (u.2 z)
        (λ v. last_after (take j ys) y x sy u.1 l z (subst (Among z) (take-suc ys j no_record b) v) (apart x z (last_to xs i a x (inr refl)) v))
        (merge_from xs ys i (suc j) (omega arith) b z m))
    go false e f g =
        let u = sorted_unsnoc (take j ys) y sy in
        let l : lower_key x ≤ lower_key y = ltb-false (lower_key y) (lower_key x) e in
        sorted_snoc (merge xs ys (suc i) j) y (g u.0 (λ p q v w. apart p q v (last_to ys j b q (inl w)))) u.1
        (λ z m. ⊎_elim
        (λ v. last_after (take i xs) x y sx u.1 l z (subst (Among z) (take-suc xs i no_record a) v) (⊎_elim inr inl (apart z y v (last_to ys j b y (inr refl)))))
        (u.2 z)
        (merge_from xs ys (suc i) j a (omega arith) z m))

-- ---- The runs of a table

-- Both runs, one behind the other.
pub both_runs_lem : (t : List ℕ) (m count : ℕ) → m ≤ count → labelled t count ≡ labelled t m ++ second_run t m count
both_runs_lem t m count h =
    let e : m + (count - m) ≡ count = omega arith in
    ap (λ (n : ℕ). take n (labels t)) (sym e) ∙ take-add m (count - m) (labels t)

pub run_length : (t : List ℕ) (m count : ℕ) → m ≤ count → RecordsFit count t → length (second_run t m count) ≡ count - m
run_length t m count h room = length-take-le (count - m) (drop m (labels t)) (omega (arith, labels_length t, length-drop m (labels t)))

-- The words of the second run, where they lie and where they are copied to.
module _ (t : List ℕ) (m count : ℕ) (mid : m ≤ count) where
  run_records : labels (run_words t m count) ≡ second_run t m count
  run_records =
      let n : count * record_words - m * record_words ≡ (count - m) * record_words = omega arith in
      rw n (labels_take (count - m) (drop (m * record_words) t) ∙ ap (take (count - m)) (labels_drop m t))

  pub run_words_lem : labelled (run_words t m count) (count - m) ≡ second_run t m count
  run_words_lem = ap (take (count - m)) run_records ∙ take-take (count - m) (count - m) (drop m (labels t)) (omega arith)

  pub run_copied : RecordsFit count t → (s w : List ℕ) → s ≡ copied (run_words t m count) w → labelled s (count - m) ≡ second_run t m count
  run_copied room s w e =
      let ws : List ℕ = run_words t m count in
      let n : length ws ≡ (count - m) * record_words = length-take-le (count * record_words - m * record_words) (drop (m * record_words) t) (omega (arith, length-drop (m * record_words) t)) ∙ omega arith in
      sym (labels_take (count - m) s) ∙ ap labels (ap (take ((count - m) * record_words)) e ∙ take_at ws (drop (length ws) w) ((count - m) * record_words) n) ∙ run_records

module _ (t : List ℕ) (m count w : ℕ) (rs : Runs t m count w) where
  main_length : length (labelled t m) ≡ m
  main_length = labelled_length t m (omega (arith, rs.room, rs.mid))

  pending_length : length (second_run t m count) ≡ count - m
  pending_length = run_length t m count rs.mid rs.room

  main_all : take m (labelled t m) ≡ labelled t m
  main_all = take_all m (labelled t m) (omega (arith, main_length))

  pending_all : take (count - m) (second_run t m count) ≡ second_run t m count
  pending_all = take_all (count - m) (second_run t m count) (omega (arith, pending_length))

  pub both_length : length (both_runs t m count) ≡ count
  both_length =
      let e = merge_length (labelled t m) (second_run t m count) m (count - m) (omega (arith, main_length)) (omega (arith, pending_length)) in
      omega (arith, rs.mid)

  pub both_sorted : Apart (labelled t m) (second_run t m count) → Sorted (both_runs t m count)
  both_sorted apart = merge_sorted (labelled t m) (second_run t m count) m (count - m) (omega (arith, main_length)) (omega (arith, pending_length))
      (rw main_all rs.main) (rw pending_all rs.pending) (λ x y a b. apart x y (subst (Among x) main_all a) (subst (Among y) pending_all b))

  pub both_from : (z : Record) → Among z (both_runs t m count) → Among z (labelled t m) ⊎ Among z (second_run t m count)
  both_from z h = ⊎_elim (λ a. inl (subst (Among z) main_all a)) (λ b. inr (subst (Among z) pending_all b))
      (merge_from (labelled t m) (second_run t m count) m (count - m) (omega (arith, main_length)) (omega (arith, pending_length)) z h)

  both_to : (z : Record) → Among z (labelled t m) ⊎ Among z (second_run t m count) → Among z (both_runs t m count)
  both_to z h = merge_to (labelled t m) (second_run t m count) m (count - m) (omega (arith, main_length)) (omega (arith, pending_length)) z
      (⊎_elim (λ a. inl (subst (Among z) (sym main_all) a)) (λ b. inr (subst (Among z) (sym pending_all) b)) h)

  -- THE VIEW has the records that lie in the table.
  pub both_used : (z : Record) → Among z (labelled t count) → Among z (both_runs t m count)
  both_used z h = both_to z (among_cases (labelled t m) (second_run t m count) z (subst (Among z) (both_runs_lem t m count rs.mid) h))

  pub used_both : (z : Record) → Among z (both_runs t m count) → Among z (labelled t count)
  used_both z h = subst (Among z) (sym (both_runs_lem t m count rs.mid))
      (⊎_elim (among_left (labelled t m) (second_run t m count) z) (among_right (labelled t m) (second_run t m count) z) (both_from z h))

-- No record is in the second run just after merging.
run_none : (t : List ℕ) (n : ℕ) → second_run t n n ≡ []
run_none t n = let z : n - n ≡ 0 = omega arith in ap (λ (k : ℕ). take k (drop n (labels t))) z

both_whole : (t : List ℕ) (n : ℕ) → both_runs t n n ≡ labelled t n
both_whole t n =
    let z : n - n ≡ 0 = omega arith in
    ap (merge (labelled t n) (second_run t n n) n) z ∙ merge_zero (labelled t n) (second_run t n n) n ∙ take-take n n (labels t) (omega arith)

sorted_none : Sorted []
unfolding Sorted
sorted_none = tt

-- SETTLING leaves two runs in order and apart, with the same records.
pub settled_both : (t : List ℕ) (m count w : ℕ) (t' : List ℕ) (k : ℕ) → Runs t m count w → Apart (labelled t m) (second_run t m count) → Settled t m count w t' k
    → Runs t' k count w × Apart (labelled t' k) (second_run t' k count) × (both_runs t' k count ≡ both_runs t m count)
settled_both t m count w t' k rs apart st = go st.way
  where
    go : ((k ≡ m) × (t' ≡ t)) ⊎ ((k ≡ count) × Merged t m count t') → Runs t' k count w × Apart (labelled t' k) (second_run t' k count) × (both_runs t' k count ≡ both_runs t m count)
    go (inl (e, f)) = rw (e, f) (rs, apart, refl)
    go (inr (e, g)) = rw e (
      record {
        room = omega (arith, rs.room, g.long);
        mid = omega arith;
        few = omega arith;
        main = rw g.merged (both_sorted t m count w rs apart);
        pending = rw (run_none t' count) sorted_none;
      },
      λ x y a b. absurd (subst (Among y) (run_none t' count) b),
      both_whole t' count ∙ g.merged,
    )
