-- THE MOVES OF AN INSERTION: the labels from a number on go up by one, and the new one is stored into the room. Assumes nothing.
use mathlib.Core.Path.{◌≡◌, refl, sym, ap, ◌∙◌}
use mathlib.Core.List.{List, [], ◌∷◌, ◌++◌}
use Prim.Native.Nat.{ℕ, zero, suc, ◌+◌, ◌-◌, ◌*◌, ◌≤◌, ◌<◌}
use native.Mathlib.Nat.{not-suc-le-zero, le_of_suc-le-suc, suc-sub-suc}
use native.Mathlib.Numerals.{add-one}
use native.Mathlib.Omega.{arith}
use lib.ListN.{length, get_or, take, drop, set, get_or-append, take-append-drop}
use lib.Seq.{drop-cons, take-suc, append_snoc, set_at, get_or-take, take_at, length-take-le, set_split, take-append-le, drop_at, take-take}
use Rattle.word.specs.Record.{Record, record_words, RecordsFit, no_record, labels, labelled}
use Rattle.word.proofs.Labels.{labels_length}
use Rattle.search_store.specs.Stored.{Stored, raised, Raised}
use Rattle.search_store.specs.Insert.{insert_at}
use Rattle.search_store.proofs.Stored.{stored_beyond}

raised_none : (xs : List Record) (n : ℕ) → xs ≡ raised xs n n
raised_none xs n = let z : n - n ≡ 0 = omega arith in rw z (sym (take-append-drop (suc n) xs))

raised_suc : (xs : List Record) (j n : ℕ) → j < n → suc n ≤ length xs
    → set (raised xs (suc j) n) (suc j) (get_or (raised xs (suc j) n) j no_record) ≡ raised xs j n
raised_suc xs j n h room =
    let w = get_or xs j no_record in
    let old = get_or xs (suc j) no_record in
    let rest : List Record = take (n - suc j) (drop (suc j) xs) ++ drop (suc n) xs in
    let split : take (suc (suc j)) xs ≡ take (suc j) xs ++ (old ∷ []) = take-suc xs (suc j) no_record (omega arith) in
    let long : length (take (suc j) xs) ≡ suc j = length-take-le (suc j) xs (omega arith) in
    let long2 : length (take (suc (suc j)) xs) ≡ suc (suc j) = length-take-le (suc (suc j)) xs (omega arith) in
    let e0 : get_or (take (suc (suc j)) xs ++ rest) j no_record ≡ w =
    get_or-append (take (suc (suc j)) xs) rest no_record j (omega arith) ∙ get_or-take (suc (suc j)) xs j no_record (omega arith) in
    let e1 : take (suc (suc j)) xs ++ rest ≡ take (suc j) xs ++ (old ∷ rest) = ap (λ (l : List Record). l ++ rest) split ∙ append_snoc (take (suc j) xs) old rest in
    let e2 : set (take (suc j) xs ++ (old ∷ rest)) (suc j) w ≡ take (suc j) xs ++ (w ∷ rest) = set_at (take (suc j) xs) old rest w (suc j) long in
    let s2 : n - j ≡ suc (n - suc j) = omega arith in
    let e3 : take (n - j) (drop j xs) ≡ w ∷ take (n - suc j) (drop (suc j) xs) = rw (s2, drop-cons xs j no_record (omega arith)) refl in
    ap (λ (x : Record). set (take (suc (suc j)) xs ++ rest) (suc j) x) e0
    ∙ ap (λ (l : List Record). set l (suc j) w) e1
    ∙ e2
    ∙ ap (λ (l : List Record). take (suc j) xs ++ (l ++ drop (suc n) xs)) (sym e3)

front : (c : ℕ) (rs ds : List Record) → c ≤ length rs → take c (take (c - 0) rs ++ ds) ≡ take c rs
front c rs ds h =
    let z : c - 0 ≡ c = omega arith in
    rw z (take_at (take c rs) ds c (length-take-le c rs h))

-- A record between the records before number p and those after is a record put in.
put_in : (p c : ℕ) (rs ds : List Record) (x : Record) → p ≤ c → c ≤ length rs
    → take (suc c) (take p rs ++ (x ∷ (take (c - p) (drop p rs) ++ ds))) ≡ insert_at p x (take c rs)
unfolding insert_at
put_in zero c rs ds x h k = ap (λ (r : List Record). x ∷ r) (front c rs ds k)
put_in (suc p) zero rs ds x h k = absurd (not-suc-le-zero h)
put_in (suc p) (suc c) [] ds x h k = absurd (not-suc-le-zero k)
put_in (suc p) (suc c) (y ∷ rs) ds x h k =
    rw suc-sub-suc (ap (λ (r : List Record). y ∷ r) (put_in p c rs ds x (le_of_suc-le-suc h) (le_of_suc-le-suc k)))

pub raise_start : (t : List ℕ) (n : ℕ) → Raised t n n t
raise_start t n = record { there = raised_none (labels t) n; beyond = refl; long = refl }

-- A turn of the loop moves one label more.
pub raise_turn : (t u v : List ℕ) (i n : ℕ) → 0 < i → i ≤ n → RecordsFit (suc n) t → Raised t i n u → Stored u i (get_or (labels u) (i - 1) no_record) v → Raised t (i - 1) n v
raise_turn t u v zero n p h room r s = absurd (not-suc-le-zero p)
raise_turn t u v (suc j) n p h room r s =
    let e : suc j - 1 ≡ j = omega arith in
    let k : Stored u (suc j) (get_or (labels u) j no_record) v = rw e at s in
    rw e (record {
      there =
          k.there
          ∙ ap (λ (l : List Record). set l (suc j) (get_or l j no_record)) r.there
          ∙ raised_suc (labels t) j n h (omega (arith, labels_length t));
      beyond = stored_beyond u v (suc j) (suc n) (get_or (labels u) j no_record) k (omega arith) ∙ r.beyond;
      long = k.long ∙ r.long;
    })

module _ (t u v : List ℕ) (count p : ℕ) (x : Record) (h : p ≤ count) (room : RecordsFit (suc count) t) (r : Raised t p count u) (s : Stored u p x v) where
  -- the labels before, the new one, those after it, and what lies past them
  cut : labels v ≡ take p (labels t) ++ (x ∷ (take (count - p) (drop p (labels t)) ++ drop (suc count) (labels t)))
  cut =
      let xs = labels t in
      let rest : List Record = take (count - p) (drop p xs) ++ drop (suc count) xs in
      let n = labels_length t in
      let m = labels_length u in
      let front : length (take (suc p) xs) ≡ suc p = length-take-le (suc p) xs (omega arith) in
      s.there
      ∙ set_split (labels u) p x (omega (arith, r.long))
      ∙ ap (λ (l : List Record). take p l ++ (x ∷ drop (suc p) l)) r.there
      ∙ ap (λ (l : List Record). l ++ (x ∷ drop (suc p) (raised xs p count))) (take-append-le p (take (suc p) xs) rest (omega arith) ∙ take-take p (suc p) xs (omega arith))
      ∙ ap (λ (l : List Record). take p xs ++ (x ∷ l)) (drop_at (take (suc p) xs) rest (suc p) front)

  -- WHAT THE INSERTION LEAVES: the labels with the new one at number p, and the words past their records as they were.
  pub insert_leaves : (labelled v (count + 1) ≡ insert_at p x (labelled t count)) × (drop (suc count * record_words) v ≡ drop (suc count * record_words) t)
  insert_leaves = (
    rw add-one (ap (take (suc count)) cut ∙ put_in p count (labels t) (drop (suc count) (labels t)) x h (omega (arith, labels_length t))),
    stored_beyond u v p (suc count) x s (omega arith) ∙ r.beyond,
  )
