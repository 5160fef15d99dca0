-- THE ENCODER'S COUNTS FROM ONE SUM: the edge count and the clause word count of a constraint's nodes, by the sum of the domain ends of their levels, each
-- of which is one of the constraint's. By induction on the nodes or the levels. Assumes nothing.
use mathlib.Core.Path.{◌≡◌, refl, sym, ap, ◌∙◌}
use mathlib.Core.List.{List, [], ◌∷◌, map}
use Prim.Native.Nat.{ℕ, zero, suc, ◌+◌, ◌*◌, ◌-◌, ◌≤◌, ◌<◌}
use native.Mathlib.Omega.{arith}
use lib.IntN.{ℤ}
use lib.ListN.{length, get_or, length-map}
use Rattle.word.specs.Record.{Record, no_record, labelled, most_nodes, RecordsFit}
use Rattle.diagram.specs.Table.{Node, no_node}
use Rattle.diagram.specs.Claim.{node_at, level_at, OfLevel}
use Rattle.diagram.specs.Constraint.{Term, levels, last_end, AllLimited}
use Rattle.diagram.specs.Flat.{bare_of, edge_count}
use Rattle.diagram.proofs.Places.{map_at}
use Rattle.diagram.proofs.Whole.{whole}
use Rattle.diagram.proofs.Terms.{levels_length}
use Rattle.encoding.specs.Boolean.{orders}
use Rattle.encoding.specs.Pattern.{order_words, node_words, word_count}
use Rattle.constraint.specs.Lent.{terms_of, levels_of, Lent}
use Rattle.constraint.proofs.Slices.{levels_count, levels_good, term_at}
use Rattle.linker.specs.Sum.{end_sum, Levelled, EndsFit, Countable}
use Rattle.linker.specs.Linked.{sliced_nodes}

-- the domain end of a level, where there is none too
pub dom_is : (cs ds : List ℕ) (i : ℕ) → length ds ≡ length cs → (level_at (levels_of cs ds) i).dom ≡ get_or ds i 0
dom_is [] [] i e = refl
dom_is [] (d ∷ ds) i e = absurd (omega arith)
dom_is (c ∷ cs) [] i e = absurd (omega arith)
dom_is (c ∷ cs) (d ∷ ds) zero e = refl
dom_is (c ∷ cs) (d ∷ ds) (suc i) e = dom_is cs ds i (omega arith)

-- a sum of n domain ends is at most n times the greatest
pub sum_fits : (ds : List ℕ) (xs : List Record) → EndsFit ds → Levelled (length ds) xs → end_sum ds xs ≤ last_end * length xs
unfolding end_sum
sum_fits ds [] f v = omega arith
sum_fits ds (x ∷ xs) f v =
    let h = v 0 (omega arith) in
    omega (arith, f (x.level - 1) (omega (arith, h.0, h.1)), sum_fits ds xs f (λ k l. v (suc k) (omega arith)))

-- the order clauses have 3 words for each domain end past the first
pub order_words_lem : (ts : List Term) → AllLimited ts → (order_words (levels ts) ≡ 3 * (orders (levels ts) - length ts)) × (length ts ≤ orders (levels ts))
unfolding order_words
order_words_lem [] l = (refl, omega arith)
order_words_lem (t ∷ ts) l = let r = order_words_lem ts l.1 in (omega (arith, r.0, r.1, l.0.0), omega (arith, r.1, l.0.0))

module _ (cs ds rs : List ℕ) (L : Lent cs ds rs) where
  -- domain ends are within the limit
  ends_fit : EndsFit ds
  ends_fit i h = (term_at cs ds rs L i (omega (arith, L.ends))).1

  -- a node's level is one of the slices'
  pub slice_level : (a : ℤ) (n : ℕ) → n < length (sliced_nodes cs ds a) → (i : ℕ) × (i < length cs) × OfLevel (sliced_nodes cs ds a) i n × ((node_at (sliced_nodes cs ds a) n).level - 1 ≡ i)
  slice_level a n h =
      let x = (whole (levels_of cs ds) a (levels_good cs ds rs L)).levelled n h in
      (x.0, omega (arith, x.1, levels_count cs ds rs L), x.2, omega (arith, x.2.1))

  -- THE LEVELS of the table's records
  table_levelled : (a : ℤ) → Levelled (length ds) (map bare_of (sliced_nodes cs ds a))
  table_levelled a k h =
      let ns = sliced_nodes cs ds a in
      let l : k < length ns = omega (arith, length-map ns bare_of) in
      let x = slice_level a k l in
      rw (map_at bare_of ns k no_record no_node l) (omega (arith, x.2.1), omega (arith, x.2.1, x.1, L.ends))

  -- THE SUM OVER THE TABLE may be taken
  pub table_countable : (a : ℤ) (t : List ℕ) (count : ℕ) → count ≤ most_nodes → RecordsFit count t → labelled t count ≡ map bare_of (sliced_nodes cs ds a) → Countable ds t count
  table_countable a t count h k e = record { few = h; room = k; ends = ends_fit; levels = rw e (table_levelled a) }

  count_edges : (ns : List Node) → edge_count (levels_of cs ds) ns ≡ length ns + end_sum ds (map bare_of ns)
  unfolding edge_count end_sum
  count_edges [] = refl
  count_edges (x ∷ xs) = omega (arith, count_edges xs, dom_is cs ds (x.level - 1) L.ends)

  node_words_lem : (ns : List Node) → node_words (levels_of cs ds) ns ≡ 3 * length ns + 4 * end_sum ds (map bare_of ns)
  unfolding node_words end_sum
  node_words_lem [] = refl
  node_words_lem (x ∷ xs) = omega (arith, node_words_lem xs, dom_is cs ds (x.level - 1) L.ends)

  module _ (ns : List Node) (xs : List Record) (e : xs ≡ map bare_of ns) where
    -- THE EDGE COUNT, from the sum over the nodes' records
    pub edge_sum : edge_count (levels_of cs ds) ns ≡ length ns + end_sum ds xs
    edge_sum = count_edges ns ∙ ap (λ (ys : List Record). length ns + end_sum ds ys) (sym e)

    -- THE CLAUSE WORD COUNT
    pub word_sum : word_count (levels_of cs ds) ns ≡ 3 * (orders (levels_of cs ds) - length (levels_of cs ds)) + 6 + 3 * length ns + 4 * end_sum ds xs
    word_sum =
        omega (arith, order_words_lem (terms_of cs ds) L.limited, node_words_lem ns, levels_length (terms_of cs ds), ap (end_sum ds) e)
