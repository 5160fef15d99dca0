-- THE SEARCH GIVES THE CHILDREN: in a finished table, what is found for a lower end less what a value takes is the node's child, since the child leads to a
-- record that holds the remainder, and there is one only. So the rows are the edge list, and the places are the records'. Assumes nothing.
use mathlib.Core.Path.{◌≡◌, refl, sym, ap, ap₂, subst, ◌∙◌}
use mathlib.Core.List.{List, [], ◌∷◌, ◌++◌, map, map-append}
use mathlib.Core.Bool.{Bool, true, false, cond}
use Prim.Native.Nat.{ℕ, zero, suc, ◌+◌, ◌*◌, ◌-◌, ◌≤◌, ◌<◌}
use native.Mathlib.Nat.{le_refl, not-suc-le-zero}
use native.Mathlib.Numerals.{add-one}
use native.Mathlib.Omega.{arith}
use lib.Dec.{leb}
use lib.IntN.{ℤ, pos, negsuc, sub_ℕ}
use lib.ListN.{length, get_or, take, drop, length-map}
use lib.Seq.{ext_get_or}
use borrow.Author.Tests.{le-leb, lt-leb}
use Rattle.word.specs.Edge.{Edge, F, T, to, edge_word}
use Rattle.word.specs.Record.{Record, record_words, first_word, RecordsFit, no_record, record_from, record_at, used, bare, labelled, most_nodes}
use Rattle.word.proofs.Flat.{used_length, used_at}
use Rattle.word.proofs.Labels.{labelled_length, labelled_at}
use Rattle.word.proofs.Among.{Standing}
use Rattle.diagram.specs.Level.{Level, AllAscend, R}
use Rattle.diagram.specs.Table.{Node, no_node, table, root}
use Rattle.diagram.specs.Claim.{node_at, OfLevel, Leads, Whole}
use Rattle.diagram.specs.Entering.{times, entering}
use Rattle.diagram.specs.Flat.{record_of, bare_of, records_from, edge_words, edge_count, end_at, first_place}
use Rattle.diagram.proofs.Entering.{Inside}
use Rattle.diagram.proofs.Places.{map_at}
use Rattle.diagram.proofs.Whole.{whole}
use Rattle.diagram.proofs.Written.{records_from-length, table_record}
use Rattle.std.specs.Prelude.{Result, Ok, Err}
use Rattle.word.specs.declared.NodeNumber.{NodeNumber}
use Rattle.finder.specs.Find.{find_in}
use Rattle.finder.proofs.Says.{find_says}
use Rattle.search_ordered.specs.Order.{Sorted}
use Rattle.search_ordered.proofs.Search.{find_there}
use Rattle.constraint.specs.Lent.{levels_of, Lent}
use Rattle.constraint.proofs.Slices.{levels_good, dom_at, off_at, rest_at, rest_small}
use Rattle.builder.proofs.Diagram.{label_ends, table_sorted}
use Rattle.linker.specs.Sum.{end_sum, Countable}
use Rattle.linker.specs.Row.{edge_found, leads_to, row_of, row_at, rows_of, place_in}
use Rattle.linker.specs.Counting.{entering_at, unentered}
use Rattle.linker.specs.Linked.{sliced_nodes, Finished, Linked}
use Rattle.linker.proofs.Laws.{slice_level, table_countable, edge_sum}
use Rattle.linker.proofs.Counting.{EachInside, none_length, none_labels, none_rest, none_counts}
use Rattle.linker.proofs.Turns.{row_long, row_here, times_append, Done}

-- the word of what is found fits
pub leads_fit : (xs : List Record) (level top : ℕ) (z : ℤ) → length xs ≤ most_nodes → edge_word (leads_to xs level top z) ≤ 4294967295
leads_fit xs level top (negsuc z) h = omega arith
leads_fit xs level top (pos r) h = go (leb top r)
  where
    found : (f : Result NodeNumber ℕ) → find_in xs level r ≡ f → edge_word (edge_found f) ≤ 4294967295
    found (Ok k) e = omega (arith, (find_says xs level r k.0 e).0)
    found (Err gap) e = omega arith

    go : (b : Bool) → edge_word (cond b T (edge_found (find_in xs level r))) ≤ 4294967295
    go true = omega arith
    go false = found (find_in xs level r) refl

-- what is found is T, F or one of the records
pub leads_inside : (xs : List Record) (level top : ℕ) (z : ℤ) → Inside (length xs) (leads_to xs level top z)
leads_inside xs level top (negsuc z) = tt
leads_inside xs level top (pos r) = go (leb top r)
  where
    found : (f : Result NodeNumber ℕ) → find_in xs level r ≡ f → Inside (length xs) (edge_found f)
    found (Ok k) e = (find_says xs level r k.0 e).0
    found (Err gap) e = tt

    go : (b : Bool) → Inside (length xs) (cond b T (edge_found (find_in xs level r)))
    go true = tt
    go false = found (find_in xs level r) refl

row_inside : (xs : List Record) (level top coef end lower : ℕ) → EachInside (length xs) (row_of xs level top coef end lower)
row_inside xs level top coef end lower j h =
    subst (Inside (length xs)) (sym (row_here xs level top coef end lower j (omega (arith, row_long xs level top coef end lower))))
    (leads_inside xs level top (sub_ℕ lower (coef * j)))

-- the same of the labels of a table
pub row_in : (t : List ℕ) (count : ℕ) → RecordsFit count t → (level top coef end lower : ℕ) → EachInside count (row_of (labelled t count) level top coef end lower)
row_in t count room level top coef end lower j h =
    subst (λ (n : ℕ). Inside n (get_or (row_of (labelled t count) level top coef end lower) j F)) (labelled_length t count room)
    (row_inside (labelled t count) level top coef end lower j h)

-- rows that are the children of each node are the edge list, and lead to each node as often as edges enter it
rows_are : (cs ds rs : List ℕ) (xs : List Record) (ns : List Node)
    → ((m : ℕ) → m < length ns → row_at cs ds rs xs ((node_at ns m).level - 1) (node_at ns m).lab.lower ≡ (node_at ns m).children)
    → map edge_word (rows_of cs ds rs xs (map bare_of ns)) ≡ edge_words ns
unfolding rows_of edge_words
rows_are cs ds rs xs [] e = refl
rows_are cs ds rs xs (n ∷ ns) e =
    map-append edge_word (row_at cs ds rs xs (n.level - 1) n.lab.lower) (rows_of cs ds rs xs (map bare_of ns))
    ∙ ap₂ (λ (p : List Edge) (q : List ℕ). map edge_word p ++ q) (e 0 (omega arith)) (rows_are cs ds rs xs ns (λ m h. e (suc m) (omega arith)))

rows_enter : (cs ds rs : List ℕ) (xs : List Record) (k : ℕ) (ns : List Node)
    → ((m : ℕ) → m < length ns → row_at cs ds rs xs ((node_at ns m).level - 1) (node_at ns m).lab.lower ≡ (node_at ns m).children)
    → times k (rows_of cs ds rs xs (map bare_of ns)) ≡ entering k ns
unfolding rows_of times entering
rows_enter cs ds rs xs k [] e = refl
rows_enter cs ds rs xs k (n ∷ ns) e =
    times_append k (row_at cs ds rs xs (n.level - 1) n.lab.lower) (rows_of cs ds rs xs (map bare_of ns))
    ∙ ap₂ (λ (p : List Edge) (q : ℕ). times k p + q) (e 0 (omega arith)) (rows_enter cs ds rs xs k ns (λ m h. e (suc m) (omega arith)))

-- places that count a child for each value are the nodes'
places_are : (ds : List ℕ) (ns : List Node) (k : ℕ)
    → ((m : ℕ) → m < length ns → length (node_at ns m).children ≡ end_at ds (node_at ns m).level + 1)
    → k < length ns → place_in ds (map bare_of ns) k ≡ first_place ns k
unfolding place_in first_place
places_are ds [] k e h = absurd (not-suc-le-zero h)
places_are ds (n ∷ ns) zero e h = refl
places_are ds (n ∷ ns) (suc k) e h = omega (arith, e 0 (omega arith), places_are ds ns k (λ m l. e (suc m) (omega arith)) (omega arith))

module _ (ls : List Level) (a : ℤ) (g : AllAscend ls) (small : (i : ℕ) → R (drop i ls) < 4294967296) where
  -- an edge that leads where a remainder belongs is what the search gives
  leads_is : (i level top : ℕ) → level ≡ suc i → top ≡ R (drop i ls) → (z : ℤ) (e : Edge) → Leads ls (table ls a) i e z
      → leads_to (map bare_of (table ls a)) level top z ≡ e
  leads_is i level top p q (negsuc z) F h = refl
  leads_is i level top p q (negsuc z) T h = absurd h
  leads_is i level top p q (negsuc z) (to n) h = absurd h.1
  leads_is i level top p q (pos r) F h = absurd h
  leads_is i level top p q (pos r) T h = rw (le-leb top r (omega arith))
  leads_is i level top p q (pos r) (to n) h =
      let ns = table ls a in
      let at : Standing (bare_of (node_at ns n)) (map bare_of ns) =
      record { k = n; within = omega (arith, length-map ns bare_of, h.0.0); here = map_at bare_of ns n no_record no_node h.0.0 } in
      rw (lt-leb top r (omega (arith, (label_ends ls g a n i h.0).1, h.1.1)))
      (ap edge_found (find_there (map bare_of ns) (table_sorted ls g a small) level r (bare_of (node_at ns n)) at (h.0.1 ∙ sym p) h.1.0 h.1.1))

-- What linking needs of the records, the ends and the edges.
pub record Linkable (ds t : List ℕ) (count : ℕ) (es : List ℕ) : Type 0 where
  pub countable : Countable ds t count
  pub sorted : Sorted (labelled t count)
  pub wide : count + end_sum ds (labelled t count) ≤ length es

module _ (cs ds rs : List ℕ) (L : Lent cs ds rs) where
  small : (i : ℕ) → R (drop i (levels_of cs ds)) < 4294967296
  small i = omega (arith, rest_small cs ds rs L i)

  module _ (a : ℤ) where
    W : Whole (levels_of cs ds) a (sliced_nodes cs ds a) (root (levels_of cs ds) a) (length (sliced_nodes cs ds a))
    W = whole (levels_of cs ds) a (levels_good cs ds rs L)

    children_count : (n i : ℕ) → i < length cs → OfLevel (sliced_nodes cs ds a) i n → length (node_at (sliced_nodes cs ds a) n).children ≡ suc (get_or ds i 0)
    children_count n i h o = (W.parent n i o).0 ∙ ap suc (dom_at cs ds rs L i h)

    -- a row is a node's children
    row_is : (n i : ℕ) → i < length cs → OfLevel (sliced_nodes cs ds a) i n
        → row_at cs ds rs (map bare_of (sliced_nodes cs ds a)) i (node_at (sliced_nodes cs ds a) n).lab.lower ≡ (node_at (sliced_nodes cs ds a) n).children
    row_is n i h o =
        let ls = levels_of cs ds in
        let x = node_at (sliced_nodes cs ds a) n in
        let xs = map bare_of (sliced_nodes cs ds a) in
        let long = row_long xs (i + 2) (get_or rs (i + 1) 0) (get_or cs i 0) (get_or ds i 0) x.lab.lower in
        ext_get_or F (row_at cs ds rs xs i x.lab.lower) x.children (long ∙ sym (children_count n i h o))
        (λ j k. let v : j ≤ get_or ds i 0 = omega arith in
        row_here xs (i + 2) (get_or rs (i + 1) 0) (get_or cs i 0) (get_or ds i 0) x.lab.lower j v
        ∙ leads_is ls a (levels_good cs ds rs L) small (suc i) (i + 2) (get_or rs (i + 1) 0) (omega arith) (top i h)
        (sub_ℕ x.lab.lower (get_or cs i 0 * j)) (get_or x.children j F) (leads j v))
      where
        top : (i : ℕ) → i < length cs → get_or rs (i + 1) 0 ≡ R (drop (suc i) (levels_of cs ds))
        top i h = rw add-one (rest_at cs ds rs L (suc i) h)

        leads : (j : ℕ) → j ≤ get_or ds i 0
            → Leads (levels_of cs ds) (sliced_nodes cs ds a) (suc i) (get_or (node_at (sliced_nodes cs ds a) n).children j F) (sub_ℕ (node_at (sliced_nodes cs ds a) n).lab.lower (get_or cs i 0 * j))
        leads j v =
            let x = node_at (sliced_nodes cs ds a) n in
            subst (λ (o : ℕ). Leads (levels_of cs ds) (sliced_nodes cs ds a) (suc i) (get_or x.children j F) (sub_ℕ x.lab.lower o)) (off_at cs ds rs L i j h)
            ((W.parent n i o).1 j (omega (arith, dom_at cs ds rs L i h)) (pos x.lab.lower) (le_refl x.lab.lower, (label_ends (levels_of cs ds) (levels_good cs ds rs L) a n i o).0))

    module _ (t : List ℕ) (count : ℕ) (es : List ℕ) (done : Finished cs ds a t count es) where
      counted : count ≡ length (sliced_nodes cs ds a)
      counted = sym (labelled_length t count done.room) ∙ ap length done.records ∙ length-map (sliced_nodes cs ds a) bare_of

      sum_is : edge_count (levels_of cs ds) (sliced_nodes cs ds a) ≡ count + end_sum ds (labelled t count)
      sum_is = edge_sum cs ds rs L (sliced_nodes cs ds a) (labelled t count) done.records ∙ ap (λ (n : ℕ). n + end_sum ds (labelled t count)) (sym counted)

      -- A FINISHED TABLE is ready to be linked
      pub ready : Linkable ds t count es
      ready = record {
        countable = table_countable cs ds rs L a t count done.few done.room done.records;
        sorted = rw done.records (table_sorted (levels_of cs ds) (levels_good cs ds rs L) a small);
        wide = omega (arith, sum_is, done.wide);
      }

      -- THE ROWS, THE PLACES AND THE COUNTS are the edge list and the node table
      pub linked : (t' es' : List ℕ) → Done cs ds rs t es count t' es' → Linked cs ds a t count es t' es'
      linked t' es' e =
          let ns = sliced_nodes cs ds a in
          let xs = map bare_of ns in
          let room : RecordsFit count t' = omega (arith, done.room, e.long) in
          record {
            records =
                ext_get_or no_record (used t' count) (records_from ns 0 0 ns) (used_length t' count room ∙ counted ∙ sym (records_from-length ns 0 0 ns))
                (λ k h. let l : k < count = omega (arith, used_length t' count room) in
                used_at t' count room k l ∙ record_is k l room ∙ sym (table_record ns k (omega (arith, counted))));
            edges =
                ap (λ (n : ℕ). take n es') sum_is
                ∙ e.rows
                ∙ ap (λ (ys : List Record). map edge_word (rows_of cs ds rs ys ys)) done.records
                ∙ rows_are cs ds rs xs ns rows;
            table_rest = e.table_rest;
            edges_rest = subst (λ (n : ℕ). drop n es' ≡ drop n es) (sym sum_is) e.edges_rest;
            table_kept = e.long;
            edges_kept = e.wide;
          }
        where
          places : (m : ℕ) → m < length (sliced_nodes cs ds a) → length (node_at (sliced_nodes cs ds a) m).children ≡ end_at ds (node_at (sliced_nodes cs ds a) m).level + 1
          places m h = let x = slice_level cs ds rs L a m h in rw x.3 (omega (arith, children_count m x.0 x.1 x.2))

          rows : (m : ℕ) → m < length (sliced_nodes cs ds a)
              → row_at cs ds rs (map bare_of (sliced_nodes cs ds a)) ((node_at (sliced_nodes cs ds a) m).level - 1) (node_at (sliced_nodes cs ds a) m).lab.lower ≡ (node_at (sliced_nodes cs ds a) m).children
          rows m h = let x = slice_level cs ds rs L a m h in rw x.3 (row_is m x.0 x.1 x.2)

          -- record k, field by field
          record_is : (k : ℕ) → k < count → RecordsFit count t' → record_at t' k ≡ record_of (first_place (sliced_nodes cs ds a) k) (entering k (sliced_nodes cs ds a)) (node_at (sliced_nodes cs ds a) k)
          record_is k h room =
              let ns = sliced_nodes cs ds a in
              let l : k < length ns = omega (arith, counted) in
              let label : bare (record_at t' k) ≡ bare_of (node_at ns k) =
              sym (labelled_at t' count room k h)
              ∙ ap (λ (ys : List Record). get_or (take count ys) k no_record) e.same
              ∙ ap (λ (ys : List Record). get_or ys k no_record) done.records
              ∙ map_at bare_of ns k no_record no_node l in
              let first : get_or t' (k * record_words + first_word) 0 ≡ first_place ns k =
              e.places k h ∙ ap (λ (ys : List Record). place_in ds ys k) done.records ∙ places_are ds ns k places l in
              let count : get_or t' (entering_at k) 0 ≡ entering k ns =
              e.counts k h ∙ ap (λ (ys : List Record). times k (rows_of cs ds rs ys ys)) done.records ∙ rows_enter cs ds rs (map bare_of ns) k ns rows in
              λ i. record_from (label i).level (label i).lower (label i).upper (first i) (count i)

-- ---- A table whose counts are cleared

module _ (cs ds : List ℕ) (a : ℤ) (t u : List ℕ) (count : ℕ) (es : List ℕ) (e : u ≡ unentered t count) where
  cleared_long : length u ≡ length t
  cleared_long = ap length e ∙ none_length t count

  -- it is as finished,
  pub cleared_finished : Finished cs ds a t count es → Finished cs ds a u count es
  cleared_finished done = record {
    few = done.few;
    room = omega (arith, done.room, cleared_long);
    records = ap (λ (l : List ℕ). labelled l count) e ∙ ap (take count) (none_labels t count) ∙ done.records;
    wide = done.wide;
  }

  -- and what linking makes of it, it makes of the table
  pub cleared_linked : (t' es' : List ℕ) → Linked cs ds a u count es t' es' → Linked cs ds a t count es t' es'
  cleared_linked t' es' l = record {
    records = l.records;
    edges = l.edges;
    table_rest = l.table_rest ∙ ap (drop (count * record_words)) e ∙ none_rest t count count (omega arith);
    edges_rest = l.edges_rest;
    table_kept = l.table_kept ∙ cleared_long;
    edges_kept = l.edges_kept;
  }

pub cleared_counts : (t u : List ℕ) (count : ℕ) → u ≡ unentered t count → RecordsFit count t → (n : ℕ) → n < count → get_or u (entering_at n) 0 ≡ 0
cleared_counts t u count e room n h = ap (λ (l : List ℕ). get_or l (entering_at n) 0) e ∙ none_counts t count n room h
