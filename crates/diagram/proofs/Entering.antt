-- THE ENTERING EDGES ADD UP: over all nodes they are the edges that lead to nodes, since each of these ends at one node; and no node has more of them than
-- there are edges. Assumes nothing.
use mathlib.Core.Path.{◌≡◌, refl, ap, ◌∙◌}
use mathlib.Core.List.{List, [], ◌∷◌, map}
use mathlib.Core.Bool.{Bool, true, false, cond}
use Prim.Native.Nat.{ℕ, zero, suc, ◌+◌, ◌≤◌, ◌<◌}
use native.Mathlib.Nat.{le_refl}
use native.Mathlib.Omega.{arith}
use lib.Dec.{eqb}
use lib.IntN.{ℤ, pos}
use lib.ListN.{length, get_or, length-append, length-map}
use borrow.Author.Tests.{ne_eqb, eqb-true, eqb-false}
use Rattle.word.specs.Edge.{Edge, F, T, to, edge_word}
use Rattle.diagram.specs.Level.{Level, AllAscend, less}
use Rattle.diagram.specs.Table.{Node, table, root}
use Rattle.diagram.specs.Claim.{node_at, level_at, Leads}
use Rattle.diagram.specs.Right.{Right}
use Rattle.diagram.specs.Entering.{ends_at, times, entering, to_node, to_nodes, edges_to_nodes, sum_below}
use Rattle.diagram.specs.Flat.{edge_words}
use Rattle.diagram.proofs.Drawn.{table_right}

-- sums of sums, of nothing, and of what is once 1
sum_add : (f g : ℕ → ℕ) (n : ℕ) → sum_below (λ k. f k + g k) n ≡ sum_below f n + sum_below g n
unfolding sum_below
sum_add f g zero = refl
sum_add f g (suc n) = omega (arith, sum_add f g n)

sum_none : (n : ℕ) → sum_below (λ k. 0) n ≡ 0
unfolding sum_below
sum_none zero = refl
sum_none (suc n) = omega (arith, sum_none n)

sum_past : (m n : ℕ) → n ≤ m → sum_below (λ k. cond (eqb m k) 1 0) n ≡ 0
unfolding sum_below
sum_past m zero h = refl
sum_past m (suc n) h = rw (ne_eqb m n (λ q. omega arith)) (omega (arith, sum_past m n (omega arith)))

sum_once : (m n : ℕ) → m < n → sum_below (λ k. cond (eqb m k) 1 0) n ≡ 1
unfolding sum_below
sum_once m zero h = absurd (omega arith)
sum_once m (suc n) h = go (eqb m n) refl (sum_once m n)
  where
    go : (b : Bool) → eqb m n ≡ b → (m < n → sum_below (λ k. cond (eqb m k) 1 0) n ≡ 1) → sum_below (λ k. cond (eqb m k) 1 0) n + cond (eqb m n) 1 0 ≡ 1
    go true e f = let q = eqb-true m n e in rw e (omega (arith, sum_past m n (omega arith)))
    go false e f = let q = eqb-false m n e in rw e (omega (arith, f (omega arith)))

-- An edge leads to T, to F or to one of the first n nodes.
abbrev pub Inside : ℕ → Edge → Type 0
Inside n F = Unit {0}
Inside n T = Unit {0}
Inside n (to m) = m < n

edge_once : (e : Edge) (n : ℕ) → Inside n e → sum_below (λ k. ends_at k e) n ≡ to_node e
edge_once F n h = sum_none n
edge_once T n h = sum_none n
edge_once (to m) n h = sum_once m n h

edges_once : (es : List Edge) (n : ℕ) → ((j : ℕ) → j < length es → Inside n (get_or es j F)) → sum_below (λ k. times k es) n ≡ to_nodes es
unfolding times to_nodes
edges_once [] n h = sum_none n
edges_once (e ∷ es) n h =
    sum_add (λ k. ends_at k e) (λ k. times k es) n
    ∙ omega (arith, edge_once e n (h 0 (omega arith)), edges_once es n (λ j l. h (suc j) (omega arith)))

-- Every child of the nodes is T, F or one of the first n nodes.
abbrev pub AllInside : ℕ → List Node → Type 0
AllInside n xs = (m : ℕ) → m < length xs → (j : ℕ) → j < length (node_at xs m).children → Inside n (get_or (node_at xs m).children j F)

pub entering_sum : (xs : List Node) (n : ℕ) → AllInside n xs → sum_below (λ k. entering k xs) n ≡ edges_to_nodes xs
unfolding entering edges_to_nodes
entering_sum [] n h = sum_none n
entering_sum (x ∷ xs) n h =
    sum_add (λ k. times k x.children) (λ k. entering k xs) n
    ∙ omega (arith, edges_once x.children n (h 0 (omega arith)), entering_sum xs n (λ m l. h (suc m) (omega arith)))

-- ---- Few enough

ends_few : (n : ℕ) (e : Edge) → ends_at n e ≤ 1
ends_few n F = omega arith
ends_few n T = omega arith
ends_few n (to m) = go (eqb m n)
  where
    go : (b : Bool) → cond b 1 0 ≤ 1
    go true = omega arith
    go false = omega arith

pub times_few : (n : ℕ) (es : List Edge) → times n es ≤ length es
unfolding times
times_few n [] = omega arith
times_few n (e ∷ es) = omega (arith, ends_few n e, times_few n es)

-- no more edges enter a node than there are
pub entering_few : (n : ℕ) (xs : List Node) → entering n xs ≤ length (edge_words xs)
unfolding entering edge_words
entering_few n [] = omega arith
entering_few n (x ∷ xs) =
    omega (arith, times_few n x.children, entering_few n xs, length-append (map edge_word x.children) (edge_words xs), length-map x.children edge_word)

-- ---- Right drawings

none_times : (n : ℕ) (es : List Edge) → ((j : ℕ) → j < length es → ends_at n (get_or es j F) ≡ 0) → times n es ≡ 0
unfolding times
none_times n [] h = refl
none_times n (e ∷ es) h = omega (arith, h 0 (omega arith), none_times n es (λ j l. h (suc j) (omega arith)))

none_entering : (n : ℕ) (xs : List Node) → ((m : ℕ) → m < length xs → (j : ℕ) → j < length (node_at xs m).children → ends_at n (get_or (node_at xs m).children j F) ≡ 0) → entering n xs ≡ 0
unfolding entering
none_entering n [] h = refl
none_entering n (x ∷ xs) h = omega (arith, none_times n x.children (h 0 (omega arith)), none_entering n xs (λ m l. h (suc m) (omega arith)))

module _ (ls : List Level) (a : ℤ) (ns : List Node) (top : Edge) (r : Right ls a ns top) where
  -- where a node's child leads, by the lower end of the node's label
  pub child_leads : (m : ℕ) (h : m < length ns) (j : ℕ) → j < length (node_at ns m).children
      → Leads ls ns (suc (r.levelled m h).0) (get_or (node_at ns m).children j F) (less (pos (node_at ns m).lab.lower) ((level_at ls (r.levelled m h).0).off j))
  child_leads m h j k =
      let l = r.levelled m h in
      r.child m l.0 l.2 j (omega (arith, r.rows m l.0 l.2)) (pos (node_at ns m).lab.lower) (le_refl _, r.filled m h)

  inside : (e : Edge) (i : ℕ) (z : ℤ) → Leads ls ns i e z → Inside (length ns) e
  inside F i z l = tt
  inside T i z l = tt
  inside (to n) i z l = l.0.0

  -- the children of a right drawing's nodes are its own
  pub right_inside : AllInside (length ns) ns
  right_inside m h j k = inside (get_or (node_at ns m).children j F) (suc (r.levelled m h).0) _ (child_leads m h j k)

  -- THE ENTERING EDGES of all nodes of a right drawing add up to the edges that lead to nodes
  pub entering_total : sum_below (λ n. entering n ns) (length ns) ≡ edges_to_nodes ns
  entering_total = entering_sum ns (length ns) right_inside

  -- an edge to another level
  elsewhere : (n i : ℕ) (e : Edge) (z : ℤ) → (node_at ns n).level ≡ 1 → Leads ls ns (suc i) e z → ends_at n e ≡ 0
  elsewhere n i F z h l = refl
  elsewhere n i T z h l = refl
  elsewhere n i (to m) z h l = rw (ne_eqb m n (λ q. let d = ap (λ (k : ℕ). (node_at ns k).level) q in omega (arith, l.0.1)))

  -- NO EDGE ENTERS a node of level 1
  pub top_entering : (n : ℕ) → (node_at ns n).level ≡ 1 → entering n ns ≡ 0
  top_entering n h = none_entering n ns (λ m k j v. elsewhere n (r.levelled m k).0 (get_or (node_at ns m).children j F) _ h (child_leads m k j v))

-- So do those of the table
pub table_entering : (ls : List Level) (a : ℤ) → AllAscend ls → sum_below (λ n. entering n (table ls a)) (length (table ls a)) ≡ edges_to_nodes (table ls a)
table_entering ls a g = entering_total ls a (table ls a) (root ls a) (table_right ls a g)
