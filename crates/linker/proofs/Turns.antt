-- THE TURNS OF THE LOOPS: one child more in a row, one record more in the sum, one record and its row more in the links. What linking stores is no part of a
-- label, so that the search finds the same throughout. Assumes nothing.
use mathlib.Core.Path.{◌≡◌, refl, sym, ap, ap₂, subst, ◌∙◌}
use mathlib.Core.List.{List, [], ◌∷◌, ◌++◌, map, map-append, append_assoc, append-nil}
use mathlib.Core.Bool.{Bool, true, false}
use Prim.Native.Nat.{ℕ, zero, suc, ◌+◌, ◌*◌, ◌-◌, ◌≤◌, ◌<◌}
use native.Mathlib.Nat.{not-suc-le-zero, le_of_suc-le-suc}
use native.Mathlib.Numerals.{add-one}
use native.Mathlib.Omega.{arith}
use lib.Dec.{ltb}
use lib.IntN.{sub_ℕ}
use lib.ListN.{length, get_or, take, drop, set, length-set, length-map, length-append, drop_of_length-le}
use lib.Seq.{drop-cons, take_all, drop-set-lt, get_or-set_same, get_or-set_other, paste, paste-suc, take-paste, drop-paste, length-paste}
use borrow.Author.Tests.{le-leb, lt-leb, ltb-true, ltb-false}
use Rattle.word.specs.Edge.{Edge, F, T, edge_word}
use Rattle.word.specs.Record.{Record, record_words, first_word, RecordsFit, no_record, record_at, bare, labels, labelled}
use Rattle.word.proofs.Kept.{rest_later}
use Rattle.word.proofs.Labels.{labels_kept, labelled_length, labelled_at}
use Rattle.diagram.specs.Constraint.{last_end}
use Rattle.diagram.specs.Flat.{end_at}
use Rattle.diagram.specs.Entering.{times}
use Rattle.diagram.proofs.Places.{row_at_lem, row_length, map_at}
use Rattle.diagram.proofs.Same.{sub_pos, sub_neg}
use Rattle.std.specs.Prelude.{Result}
use Rattle.word.specs.declared.NodeNumber.{NodeNumber}
use Rattle.finder.specs.Find.{find_in}
use Rattle.linker.specs.Sum.{end_sum, Countable}
use Rattle.linker.specs.Row.{edge_found, leads_to, row_of, row_at, rows_of, place_in}
use Rattle.linker.specs.Counting.{entering_at, entered_by, entered}
use Rattle.linker.proofs.Counting.{EachInside, entered_length, entered_labels, entered_first, entered_rest, entered_counts, entered_next}

-- ---- A row

module _ (xs : List Record) (level top coef end lower : ℕ) where
  pub row_long : length (row_of xs level top coef end lower) ≡ suc end
  unfolding row_of
  row_long = row_length (λ j. leads_to xs level top (sub_ℕ lower (coef * j))) end

  pub row_here : (j : ℕ) → j ≤ end → get_or (row_of xs level top coef end lower) j F ≡ leads_to xs level top (sub_ℕ lower (coef * j))
  unfolding row_of
  row_here j h = row_at_lem (λ j. leads_to xs level top (sub_ℕ lower (coef * j))) end j F h

  abbrev words : List ℕ
  words = map edge_word (row_of xs level top coef end lower)

  pub words_long : length words ≡ suc end
  words_long = length-map (row_of xs level top coef end lower) edge_word ∙ row_long

  words_here : (j : ℕ) → j ≤ end → get_or words j 0 ≡ edge_word (leads_to xs level top (sub_ℕ lower (coef * j)))
  words_here j h = map_at edge_word (row_of xs level top coef end lower) j 0 F (omega (arith, row_long)) ∙ ap edge_word (row_here j h)

  -- A TURN OF A ROW: a child's word is written, and the child is counted
  pub row_turn : (es₀ es : List ℕ) (j w : ℕ) → j ≤ end → end + 1 ≤ length es₀ → es ≡ paste es₀ 0 words j
      → w ≡ edge_word (leads_to xs level top (sub_ℕ lower (coef * j)))
      → set es j w ≡ paste es₀ 0 words (j + 1)
  row_turn es₀ es j w h room e q =
      rw (e, q ∙ sym (words_here j h), add-one j)
      (subst (λ (k : ℕ). set (paste es₀ 0 words j) k (get_or words j 0) ≡ paste es₀ 0 words (suc j)) (let z : 0 + j ≡ j = omega arith in z)
      (paste-suc es₀ 0 words j 0 (omega arith) (omega (arith, words_long))))

  -- the row is whole when a word for each value is written
  pub row_whole : (es : List ℕ) → length es ≡ end + 1 → paste es 0 words (end + 1) ≡ words
  row_whole es e =
      ap₂ (λ (ws vs : List ℕ). ws ++ vs) (take_all (end + 1) words (omega (arith, words_long))) (drop_of_length-le es (let h : length es ≤ 0 + (end + 1) = omega arith in h))
      ∙ append-nil words

  pub count_turn : (t₀ t : List ℕ) (j : ℕ) (e : Edge) → j ≤ end → t ≡ entered t₀ (take j (row_of xs level top coef end lower)) → e ≡ leads_to xs level top (sub_ℕ lower (coef * j))
      → entered_by t e ≡ entered t₀ (take (j + 1) (row_of xs level top coef end lower))
  count_turn t₀ t j e h is at =
      rw (add-one j)
      (ap₂ entered_by is (at ∙ sym (row_here j h)) ∙ sym (entered_next t₀ (row_of xs level top coef end lower) j (omega (arith, row_long))))

-- A CHILD, by the test that decides it: below 0, at R or above, or by what is found.
module _ (xs : List Record) (level top lower taken : ℕ) where
  pub child_below : lower < taken → F ≡ leads_to xs level top (sub_ℕ lower taken)
  child_below h = rw (sub_neg lower taken h)

  pub child_top : taken ≤ lower → top ≤ lower - taken → T ≡ leads_to xs level top (sub_ℕ lower taken)
  child_top h k = rw (sub_pos lower taken h, le-leb top (lower - taken) k)

  pub child_found : taken ≤ lower → lower - taken < top → (f : Result NodeNumber ℕ) → f ≡ find_in xs level (lower - taken) → edge_found f ≡ leads_to xs level top (sub_ℕ lower taken)
  child_found h k f e = rw (sub_pos lower taken h, lt-leb top (lower - taken) k) (ap edge_found e)

-- ---- The sum

module _ (t : List ℕ) (count : ℕ) (room : RecordsFit count t) (k : ℕ) (h : k < count) where
  rest_cons : drop k (labelled t count) ≡ bare (record_at t k) ∷ drop (suc k) (labelled t count)
  rest_cons =
      drop-cons (labelled t count) k no_record (omega (arith, labelled_length t count room))
      ∙ ap (λ (x : Record). x ∷ drop (suc k) (labelled t count)) (labelled_at t count room k h)

  -- A TURN OF THE SUM
  pub sum_turn : (ds : List ℕ) → end_sum ds (drop k (labelled t count)) ≡ get_or ds ((record_at t k).level - 1) 0 + end_sum ds (drop (k + 1) (labelled t count))
  unfolding end_sum
  sum_turn ds = rw (add-one, rest_cons)

-- record k's level, and its domain end
pub record OneEnd (ds t : List ℕ) (k : ℕ) : Type 0 where
  pub low : 1 ≤ (record_at t k).level
  pub high : (record_at t k).level ≤ length ds
  pub small : get_or ds ((record_at t k).level - 1) 0 ≤ last_end

pub one_end : {ds t : List ℕ} {count : ℕ} {k : ℕ} → Countable ds t count → k < count → OneEnd ds t k
one_end {ds} {t} {count} {k} C h =
    let v = rw (labelled_at t count C.room k h) at (C.levels k (omega (arith, labelled_length t count C.room))) in
    record { low = v.0; high = v.1; small = C.ends ((record_at t k).level - 1) (omega (arith, v.0, v.1)) }

pub sum_end : (ds t : List ℕ) (count k : ℕ) → RecordsFit count t → count ≤ k → end_sum ds (drop k (labelled t count)) ≡ 0
unfolding end_sum
sum_end ds t count k room h = rw (drop_of_length-le (labelled t count) (past count k room h))
  where
    past : (count k : ℕ) → RecordsFit count t → count ≤ k → length (labelled t count) ≤ k
    past count k room h = omega (arith, labelled_length t count room)

-- ---- The links

-- the place behind a record's children
place_next : (ds : List ℕ) (xs : List Record) (n : ℕ) → n < length xs → place_in ds xs (suc n) ≡ place_in ds xs n + (end_at ds (get_or xs n no_record).level + 1)
unfolding place_in
place_next ds [] n h = absurd (not-suc-le-zero h)
place_next ds (x ∷ xs) zero h = omega arith
place_next ds (x ∷ xs) (suc n) h = omega (arith, place_next ds xs n (le_of_suc-le-suc h))

pub times_append : (n : ℕ) (xs ys : List Edge) → times n (xs ++ ys) ≡ times n xs + times n ys
unfolding times
times_append n [] ys = omega arith
times_append n (x ∷ xs) ys = omega (arith, times_append n xs ys)

-- rows have a child for each value of each record's level
pub rows_long : (cs ds rs : List ℕ) (xs ys : List Record) → length (rows_of cs ds rs xs ys) ≡ length ys + end_sum ds ys
unfolding rows_of end_sum
rows_long cs ds rs xs [] = refl
rows_long cs ds rs xs (y ∷ ys) =
    let i : ℕ = y.level - 1 in
    omega (
      arith,
      length-append (row_at cs ds rs xs (y.level - 1) y.lower) (rows_of cs ds rs xs ys),
      row_long xs (i + 2) (get_or rs (i + 1) 0) (get_or cs i 0) (get_or ds i 0) y.lower,
      rows_long cs ds rs xs ys,
    )

-- AFTER k RECORDS, of the entry's table t₀ and edges es₀: labels are the entry's; the places of k records are written, and what is counted and what is left to
-- count add up; the rest of the rows stands behind what is written. Behind the records, and from the next row's place on, all is the entry's.
pub record Turn (cs ds rs t₀ es₀ : List ℕ) (count : ℕ) (t es : List ℕ) (first k : ℕ) : Type 0 where
  pub within : k ≤ count
  pub long : length t ≡ length t₀
  pub wide : length es ≡ length es₀
  pub same : labels t ≡ labels t₀
  pub here : first ≡ place_in ds (labelled t₀ count) k
  pub places : (n : ℕ) → n < k → get_or t (n * record_words + first_word) 0 ≡ place_in ds (labelled t₀ count) n
  pub counts : (n : ℕ) → n < count
      → get_or t (entering_at n) 0 + times n (rows_of cs ds rs (labelled t₀ count) (drop k (labelled t₀ count))) ≡ times n (rows_of cs ds rs (labelled t₀ count) (labelled t₀ count))
  pub rows : map edge_word (rows_of cs ds rs (labelled t₀ count) (labelled t₀ count)) ≡ take first es ++ map edge_word (rows_of cs ds rs (labelled t₀ count) (drop k (labelled t₀ count)))
  pub place : first + (count - k) + end_sum ds (drop k (labelled t₀ count)) ≡ count + end_sum ds (labelled t₀ count)
  pub table_rest : drop (count * record_words) t ≡ drop (count * record_words) t₀
  pub edges_rest : drop first es ≡ drop first es₀

pub turn_start : (cs ds rs t es : List ℕ) (count : ℕ) → ((n : ℕ) → n < count → get_or t (entering_at n) 0 ≡ 0) → Turn cs ds rs t es count t es 0 0
unfolding place_in
turn_start cs ds rs t es count none = record {
  within = omega arith;
  long = refl;
  wide = refl;
  same = refl;
  here = refl;
  places = λ n h. absurd (not-suc-le-zero h);
  counts = λ n h. omega (arith, none n h);
  rows = refl;
  place = omega arith;
  table_rest = refl;
  edges_rest = refl;
}

module _ (cs ds rs t₀ es₀ : List ℕ) (count : ℕ) (t es : List ℕ) (first k : ℕ) (room : RecordsFit count t₀) (so : Turn cs ds rs t₀ es₀ count t es first k) (h : k < count) where
  abbrev xs : List Record
  xs = labelled t₀ count

  -- record k and those after it
  rest_is : drop k xs ≡ bare (record_at t k) ∷ drop (suc k) xs
  rest_is =
      ap (λ (l : List Record). drop k (take count l)) (sym so.same)
      ∙ rest_cons t count (omega (arith, so.long)) k h
      ∙ ap (λ (l : List Record). bare (record_at t k) ∷ drop (suc k) (take count l)) so.same

  -- the row's place is within the edges
  pub row_fits : count + end_sum ds xs ≤ length es₀ → first + (get_or ds ((record_at t k).level - 1) 0 + 1) ≤ length es
  unfolding end_sum
  row_fits w = omega (arith, so.place, so.wide, ap (end_sum ds) rest_is)

  module _ (w : count + end_sum ds xs ≤ length es₀) (t₁ t' es' : List ℕ) (i lower : ℕ) (i-is : i ≡ (record_at t k).level - 1) (lower_is : lower ≡ (record_at t k).lower)
      (set_is : t₁ ≡ set t (k * record_words + first_word) first)
      (inside : EachInside count (row_at cs ds rs xs i lower))
      (count-is : t' ≡ entered t₁ (row_at cs ds rs (labelled t₁ count) i lower))
      (paste-is : es' ≡ paste es first (map edge_word (row_at cs ds rs (labelled t₁ count) i lower)) (get_or ds i 0 + 1)) where
    abbrev es_of : List Edge
    es_of = row_at cs ds rs xs i lower

    stored_labels : labels t₁ ≡ labels t₀
    stored_labels = ap labels set_is ∙ labels_kept t k first_word first (omega arith) (omega arith) ∙ so.same

    table_is : t' ≡ entered t₁ es_of
    table_is = count-is ∙ ap (λ (l : List Record). entered t₁ (row_at cs ds rs (take count l) i lower)) stored_labels

    edges_are : es' ≡ paste es first (map edge_word es_of) (get_or ds i 0 + 1)
    edges_are = paste-is ∙ ap (λ (l : List Record). paste es first (map edge_word (row_at cs ds rs (take count l) i lower)) (get_or ds i 0 + 1)) stored_labels

    stored_long : length t₁ ≡ length t₀
    stored_long = ap length set_is ∙ length-set t (k * record_words + first_word) first ∙ so.long

    next_place : first + (get_or ds i 0 + 1) + (count - suc k) + end_sum ds (drop (suc k) xs) ≡ count + end_sum ds xs
    unfolding end_sum
    next_place = rw i-is (omega (arith, so.place, ap (end_sum ds) rest_is))

    next_here : first + (get_or ds i 0 + 1) ≡ place_in ds xs (suc k)
    next_here =
        let e : get_or xs k no_record ≡ bare (record_at t k) =
        ap (λ (l : List Record). get_or (take count l) k no_record) (sym so.same) ∙ labelled_at t count (omega (arith, so.long)) k h in
        ap₂ (λ (f j : ℕ). f + (get_or ds j 0 + 1)) so.here (i-is ∙ ap (λ (x : Record). x.level - 1) (sym e))
        ∙ sym (place_next ds xs k (omega (arith, labelled_length t₀ count room)))

    next_places : (n : ℕ) → n < suc k → get_or t' (n * record_words + first_word) 0 ≡ place_in ds xs n
    next_places n l =
        ap (λ (u : List ℕ). get_or u (n * record_words + first_word) 0) table_is
        ∙ entered_first t₁ es_of n
        ∙ ap (λ (u : List ℕ). get_or u (n * record_words + first_word) 0) set_is
        ∙ go (ltb n k) refl
      where
        go : (b : Bool) → ltb n k ≡ b → get_or (set t (k * record_words + first_word) first) (n * record_words + first_word) 0 ≡ place_in ds xs n
        go true e = get_or-set_other t (k * record_words + first_word) (n * record_words + first_word) first 0 (λ q. let m = ltb-true n k e in omega arith) ∙ so.places n (ltb-true n k e)
        go false e =
            let q : n ≡ k = omega (arith, ltb-false n k e) in
            ap (λ (m : ℕ). get_or (set t (k * record_words + first_word) first) (m * record_words + first_word) 0) q
            ∙ get_or-set_same t (k * record_words + first_word) first 0 (omega (arith, so.long))
            ∙ so.here
            ∙ ap (place_in ds xs) (sym q)

    rows_cons : rows_of cs ds rs xs (drop k xs) ≡ es_of ++ rows_of cs ds rs xs (drop (suc k) xs)
    unfolding rows_of
    rows_cons =
        ap (rows_of cs ds rs xs) rest_is
        ∙ ap₂ (λ (j l : ℕ). row_at cs ds rs xs j l ++ rows_of cs ds rs xs (drop (suc k) xs)) (sym i-is) (sym lower_is)

    next_counts : (n : ℕ) → n < count → get_or t' (entering_at n) 0 + times n (rows_of cs ds rs xs (drop (suc k) xs)) ≡ times n (rows_of cs ds rs xs xs)
    next_counts n l =
        let a : get_or t' (entering_at n) 0 ≡ get_or t (entering_at n) 0 + times n es_of =
        ap (λ (u : List ℕ). get_or u (entering_at n) 0) table_is
        ∙ entered_counts t₁ es_of count n (omega (arith, stored_long)) inside
        ∙ ap (λ (u : List ℕ). get_or u (entering_at n) 0 + times n es_of) set_is
        ∙ ap (λ (m : ℕ). m + times n es_of) (get_or-set_other t (k * record_words + first_word) (entering_at n) first 0 (λ q. omega arith)) in
        let b = times_append n es_of (rows_of cs ds rs xs (drop (suc k) xs)) in
        omega (arith, a, b, so.counts n l, ap (times n) rows_cons)

    fits : first + (get_or ds i 0 + 1) ≤ length es
    fits = rw i-is (row_fits w)

    long_row : length (map edge_word es_of) ≡ suc (get_or ds i 0)
    long_row = words_long xs (i + 2) (get_or rs (i + 1) 0) (get_or cs i 0) (get_or ds i 0) lower

    taken : take (first + (get_or ds i 0 + 1)) es' ≡ take first es ++ map edge_word es_of
    taken =
        ap (take (first + (get_or ds i 0 + 1))) edges_are
        ∙ take-paste es first (map edge_word es_of) (get_or ds i 0 + 1) (omega (arith, fits)) (omega (arith, long_row))
        ∙ ap (λ (l : List ℕ). take first es ++ l) (take_all (get_or ds i 0 + 1) (map edge_word es_of) (omega (arith, long_row)))

    next_rows : map edge_word (rows_of cs ds rs xs xs) ≡ take (first + (get_or ds i 0 + 1)) es' ++ map edge_word (rows_of cs ds rs xs (drop (suc k) xs))
    next_rows =
        so.rows
        ∙ ap (λ (l : List Edge). take first es ++ map edge_word l) rows_cons
        ∙ ap (λ (l : List ℕ). take first es ++ l) (map-append edge_word es_of (rows_of cs ds rs xs (drop (suc k) xs)))
        ∙ sym (append_assoc (take first es) (map edge_word es_of) (map edge_word (rows_of cs ds rs xs (drop (suc k) xs))))
        ∙ ap (λ (l : List ℕ). l ++ map edge_word (rows_of cs ds rs xs (drop (suc k) xs))) (sym taken)

    -- A TURN OF THE LINKS
    pub turn_next : Turn cs ds rs t₀ es₀ count t' es' (first + (get_or ds i 0 + 1)) (k + 1)
    turn_next = rw (add-one k) (record {
      within = h;
      long = ap length table_is ∙ entered_length t₁ es_of ∙ stored_long;
      wide = ap length edges_are ∙ length-paste es first (map edge_word es_of) (get_or ds i 0 + 1) fits (omega (arith, long_row)) ∙ so.wide;
      same = ap labels table_is ∙ entered_labels t₁ es_of ∙ stored_labels;
      here = next_here;
      places = next_places;
      counts = next_counts;
      rows = next_rows;
      place = next_place;
      table_rest =
          ap (drop (count * record_words)) table_is
          ∙ entered_rest t₁ es_of count inside
          ∙ ap (drop (count * record_words)) set_is
          ∙ drop-set-lt (count * record_words) t (k * record_words + first_word) first (omega arith)
          ∙ so.table_rest;
      edges_rest =
          ap (drop (first + (get_or ds i 0 + 1))) edges_are
          ∙ drop-paste es first (map edge_word es_of) (get_or ds i 0 + 1) (omega (arith, fits)) (omega (arith, long_row))
          ∙ rest_later es₀ es first (first + (get_or ds i 0 + 1)) (omega arith) so.edges_rest;
    })

-- AFTER ALL RECORDS what is asked for is written, and behind it all is the entry's.
pub record Done (cs ds rs t₀ es₀ : List ℕ) (count : ℕ) (t es : List ℕ) : Type 0 where
  pub same : labels t ≡ labels t₀
  pub places : (n : ℕ) → n < count → get_or t (n * record_words + first_word) 0 ≡ place_in ds (labelled t₀ count) n
  pub counts : (n : ℕ) → n < count → get_or t (entering_at n) 0 ≡ times n (rows_of cs ds rs (labelled t₀ count) (labelled t₀ count))
  pub rows : take (count + end_sum ds (labelled t₀ count)) es ≡ map edge_word (rows_of cs ds rs (labelled t₀ count) (labelled t₀ count))
  pub table_rest : drop (count * record_words) t ≡ drop (count * record_words) t₀
  pub edges_rest : drop (count + end_sum ds (labelled t₀ count)) es ≡ drop (count + end_sum ds (labelled t₀ count)) es₀
  pub long : length t ≡ length t₀
  pub wide : length es ≡ length es₀

pub turn_end : (cs ds rs t₀ es₀ : List ℕ) (count : ℕ) (t es : List ℕ) (first k : ℕ) → RecordsFit count t₀ → Turn cs ds rs t₀ es₀ count t es first k → count ≤ k
    → Done cs ds rs t₀ es₀ count t es
unfolding rows_of end_sum times
turn_end cs ds rs t₀ es₀ count t es first k room so h =
    let xs = labelled t₀ count in
    let past : length xs ≤ k = omega (arith, labelled_length t₀ count room) in
    let none : drop k xs ≡ [] = drop_of_length-le xs past in
    let f : first ≡ count + end_sum ds xs = omega (arith, so.place, ap (end_sum ds) none, so.within) in
    record {
      same = so.same;
      places = λ n l. so.places n (omega (arith, so.within));
      counts = λ n l. omega (arith, so.counts n l, ap (λ (ys : List Record). times n (rows_of cs ds rs xs ys)) none);
      rows =
          sym (so.rows
          ∙ ap₂ (λ (n : ℕ) (ys : List Record). take n es ++ map edge_word (rows_of cs ds rs xs ys)) f none
          ∙ append-nil (take (count + end_sum ds xs) es));
      table_rest = so.table_rest;
      edges_rest = subst (λ (n : ℕ). drop n es ≡ drop n es₀) f so.edges_rest;
      long = so.long;
      wide = so.wide;
    }
