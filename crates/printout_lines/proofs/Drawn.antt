-- A drawing in lent memory is read back: each node's record and the words of its children, and so its line. By induction over the nodes.
-- Assumes nothing.
use mathlib.Core.Path.{◌≡◌, refl, sym, ap, ap₂, ◌∙◌}
use mathlib.Core.List.{List, [], ◌∷◌, ◌++◌, map, append_assoc}
use Prim.Native.Nat.{ℕ, zero, suc, ◌+◌, ◌-◌, ◌≤◌, ◌<◌}
use native.Mathlib.Nat.{not-suc-le-zero, le_of_suc-le-suc}
use native.Mathlib.Numerals.{add-one}
use native.Mathlib.Omega.{arith}
use lib.ListN.{length, take, drop, length-append, length-map, length-take, take-append-drop, drop_of_length-le}
use lib.Seq.{drop-cons, take_at, drop_at, drop-drop}
use Rattle.word.specs.Edge.{edge_word, edge_in}
use Rattle.word.specs.Record.{Record, record_at}
use Rattle.word.proofs.Kept.{Parts}
use Rattle.diagram.specs.Table.{Node, no_node}
use Rattle.diagram.specs.Claim.{node_at}
use Rattle.diagram.specs.Entering.{entering}
use Rattle.diagram.specs.Flat.{record_of, edge_words, first_place}
use Rattle.diagram.proofs.Written.{record_drawn, place_inside, edges_in}
use Rattle.printout_lines.specs.Text.{node_line, node_lines}
use Rattle.printout_lines.specs.Lying.{Lying, held_node}

-- ---- Places in the edge list

place_next : (ns : List Node) (k : ℕ) → k < length ns → first_place ns (suc k) ≡ first_place ns k + length (node_at ns k).children
unfolding first_place
place_next [] k h = absurd (not-suc-le-zero h)
place_next (x ∷ xs) zero h = omega arith
place_next (x ∷ xs) (suc k) h = omega (arith, place_next xs k (le_of_suc-le-suc h))

place_end : (ns : List Node) → first_place ns (length ns) ≡ length (edge_words ns)
unfolding first_place edge_words
place_end [] = refl
place_end (x ∷ xs) = omega (arith, place_end xs, length-append (map edge_word x.children) (edge_words xs), length-map x.children edge_word)

-- a node's children stand from its first place on
row_at_lem : (ns : List Node) (rest : List ℕ) (k : ℕ) → k < length ns
    → take (length (node_at ns k).children) (drop (first_place ns k) (edge_words ns ++ rest)) ≡ map edge_word (node_at ns k).children
unfolding first_place edge_words
row_at_lem [] rest k h = absurd (not-suc-le-zero h)
row_at_lem (x ∷ xs) rest zero h =
    ap (take (length x.children)) (append_assoc (map edge_word x.children) (edge_words xs) rest)
    ∙ take_at (map edge_word x.children) (edge_words xs ++ rest) (length x.children) (length-map x.children edge_word)
row_at_lem (x ∷ xs) rest (suc k) h =
    ap (take (length (node_at xs k).children))
    (sym (drop-drop (first_place xs k) (length x.children) (map edge_word x.children ++ edge_words xs ++ rest))
    ∙ ap (drop (first_place xs k))
    (ap (drop (length x.children)) (append_assoc (map edge_word x.children) (edge_words xs) rest)
    ∙ drop_at (map edge_word x.children) (edge_words xs ++ rest) (length x.children) (length-map x.children edge_word)))
    ∙ row_at_lem xs rest k (le_of_suc-le-suc h)

-- ---- Nodes

-- the words of a node's edges, from one place up to another
abbrev pub edges_held : List ℕ → ℕ → ℕ → List ℕ
edges_held es first past = take (past - first) (drop first es)

-- the lines from node k on
abbrev pub lines_left : List Node → ℕ → List ℕ
lines_left ns k = node_lines ns k (drop k ns)

module _ {ns : List Node} {t : List ℕ} {count : ℕ} {es : List ℕ} {total : ℕ} (l : Lying ns t count es total) where
  record_is : (k : ℕ) → k < count → record_at t k ≡ record_of (first_place ns k) (entering k ns) (node_at ns k)
  record_is = record_drawn t count ns l.room l.records l.counted

  pub first_is : (k : ℕ) → k < count → (record_at t k).first ≡ first_place ns k
  first_is k h = ap (λ (x : Record). x.first) (record_is k h)

  total_is : total ≡ length (edge_words ns)
  total_is = omega (arith, ap length l.edges, length-take total es, l.wide)

  pub past_is : (k : ℕ) → k ≡ count → total ≡ first_place ns k
  past_is k h = total_is ∙ sym (place_end ns) ∙ ap (first_place ns) (sym (h ∙ l.counted))

  -- the places of a node's children
  pub places : (k first past : ℕ) → k < count → first ≡ first_place ns k → past ≡ first_place ns (k + 1) → (first ≤ past) × (past ≤ length es)
  places k first past h p q =
      let n : first_place ns (k + 1) ≡ first_place ns k + length (node_at ns k).children = ap (first_place ns) (add-one k) ∙ place_next ns k (omega (arith, l.counted)) in
      (omega arith, omega (arith, place_inside ns k (omega (arith, l.counted)), total_is, l.wide))

  children_are : (k first past : ℕ) → k < count → first ≡ first_place ns k → past ≡ first_place ns (k + 1)
      → map edge_in (edges_held es first past) ≡ (node_at ns k).children
  children_are k first past h p q =
      let n : first_place ns (k + 1) ≡ first_place ns k + length (node_at ns k).children = ap (first_place ns) (add-one k) ∙ place_next ns k (omega (arith, l.counted)) in
      let s : past - first ≡ length (node_at ns k).children = omega arith in
      ap (map edge_in)
      (ap₂ (λ (a b : ℕ). take a (drop b es)) s p
      ∙ ap (λ (xs : List ℕ). take (length (node_at ns k).children) (drop (first_place ns k) xs)) (sym (take-append-drop total es) ∙ ap (λ (xs : List ℕ). xs ++ drop total es) l.edges)
      ∙ row_at_lem ns (drop total es) k (omega (arith, l.counted)))
      ∙ edges_in (node_at ns k).children (λ j m. l.plain k j (omega (arith, l.counted)) m)

  node_is : (k first past : ℕ) → k < count → first ≡ first_place ns k → past ≡ first_place ns (k + 1) → held_node (record_at t k) (edges_held es first past) ≡ node_at ns k
  node_is k first past h p q =
      let r = record_is k h in
      let c = children_are k first past h p q in
      λ i. record { level = (r i).level; lab = record { lower = (r i).lower; upper = (r i).upper }; children = c i }

  pub lines_turn : (k first past : ℕ) → k < count → first ≡ first_place ns k → past ≡ first_place ns (k + 1)
      → Parts (lines_left ns k) (node_line k (record_at t k).entering (held_node (record_at t k) (edges_held es first past))) (lines_left ns (k + 1))
  unfolding node_lines
  lines_turn k first past h p q =
      let r = record_is k h in
      let e = node_is k first past h p q in
      let d = drop-cons ns k no_node (omega (arith, l.counted)) in
      record {
        joined =
            ap (node_lines ns k) d
            ∙ ap₂ (λ (x : Node) (m : ℕ). node_line k (entering k ns) x ++ node_lines ns m (drop m ns)) (sym e) (sym (add-one k))
            ∙ ap (λ (c : ℕ). node_line k c (held_node (record_at t k) (edges_held es first past)) ++ lines_left ns (k + 1)) (sym (ap (λ (x : Record). x.entering) r));
      }

  pub lines_none : (k : ℕ) → count ≤ k → lines_left ns k ≡ []
  unfolding node_lines
  lines_none k h = ap (node_lines ns k) (drop_of_length-le ns {i = k} (omega (arith, l.counted)))
