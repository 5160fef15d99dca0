-- THE REPLY BY ITS TESTS: the diagram's own counts from the sum over its records, which test decides, and the reply with its lists. Assumes nothing.
use Rattle.std.proofs.Common.{Result, Ok, Err}
use mathlib.Core.Path.{◌≡◌, sym, ap, subst}
use mathlib.Core.List.{List}
use Prim.Native.Nat.{ℕ, ◌+◌, ◌*◌, ◌-◌, ◌≤◌, ◌<◌}
use native.Mathlib.Omega.{arith}
use lib.IntN.{ℤ}
use lib.ListN.{length}
use borrow.Author.Tests.{lt-ltb, le-ltb}
use Rattle.word.specs.Edge.{Edge}
use Rattle.refusal.specs.declared.Refusal.{Refusal}
use Rattle.refusal.specs.declared.Refusal.TheVariants.{TooManyNodes, TooManyEdges, TooManyWords}
use Rattle.diagram.proofs.Terms.{levels_length}
use Rattle.word.specs.Record.{labelled}
use Rattle.diagram.specs.Flat.{edge_count}
use Rattle.diagram.specs.Constraint.{Constraint}
use Rattle.encoding.specs.Pattern.{word_count}
use Rattle.limits.specs.declared.Limits.{Limits}
use Rattle.limits.specs.Limits.{node_limit}
use Rattle.constraint.specs.Lent.{terms_of, Lent}
use Rattle.constraint.proofs.Slices.{levels_count}
use Rattle.linker.specs.Sum.{end_sum, Countable}
use Rattle.linker.proofs.Laws.{order_words_lem, table_countable, edge_sum, word_sum}
use Rattle.filler.specs.declared.Counts.{Counts}
use Rattle.encoder_levels.specs.Reply.{capacity, counts_within}
use Rattle.filler.specs.Filled.{levels_in, nodes_for, constraint_of, counts_by, Tabled, Roomy, Filled}
use Rattle.encoder_levels.specs.Passes.{Cleared, Answered}

-- ---- The tests, over any constraint

abbrev pub counts_of : Constraint → Counts
counts_of c = record { nodes = length (nodes_for c); edges = edge_count (levels_in c) (nodes_for c); words = word_count (levels_in c) (nodes_for c) }

module _ (l : Limits) (c : Constraint) (t e w : ℕ) where
  pub refuse_6 : capacity l t < length (nodes_for c) → counts_within l c t e w ≡ Err TooManyNodes
  unfolding counts_within
  refuse_6 h = rw (lt-ltb (capacity l t) (length (nodes_for c)) h)

  module _ (h : length (nodes_for c) ≤ capacity l t) where
    pub refuse_7 : e < edge_count (levels_in c) (nodes_for c) → counts_within l c t e w ≡ Err TooManyEdges
    unfolding counts_within
    refuse_7 k = rw (le-ltb (capacity l t) (length (nodes_for c)) h, lt-ltb e (edge_count (levels_in c) (nodes_for c)) k)

    module _ (k : edge_count (levels_in c) (nodes_for c) ≤ e) where
      pub refuse_8 : w < word_count (levels_in c) (nodes_for c) → counts_within l c t e w ≡ Err TooManyWords
      unfolding counts_within
      refuse_8 m = rw (le-ltb (capacity l t) (length (nodes_for c)) h, le-ltb e (edge_count (levels_in c) (nodes_for c)) k, lt-ltb w (word_count (levels_in c) (nodes_for c)) m)

      pub accept : word_count (levels_in c) (nodes_for c) ≤ w → counts_within l c t e w ≡ Ok (counts_of c)
      unfolding counts_within
      accept m = rw (le-ltb (capacity l t) (length (nodes_for c)) h, le-ltb e (edge_count (levels_in c) (nodes_for c)) k, le-ltb w (word_count (levels_in c) (nodes_for c)) m)

-- a reply with zeroed lists, and one with filled lists
pub refused_answer : (l : Limits) (c : Constraint) (x : Refusal) (t e w t' e' w' : List ℕ) (r : Result Counts Refusal) → counts_within l c (length t) (length e) (length w) ≡ Err x
    → Cleared x t e w t' e' w' r → Answered l c t e w t' e' w' r
refused_answer l c x t e w t' e' w' r q C =
    subst (Answered l c t e w t' e' w') (sym C.reply) (record { reply = sym q; table = C.table; edges = C.edges; clauses = C.clauses })

pub accepted_answer : (l : Limits) (c : Constraint) (n : Counts) (t e w t' e' w' : List ℕ) → counts_within l c (length t) (length e) (length w) ≡ Ok n
    → Filled c t e w t' e' w' → Answered l c t e w t' e' w' (Ok n)
accepted_answer l c n t e w t' e' w' q F = record { reply = sym q; table = F.table; edges = F.edges; clauses = F.clauses }

-- ---- The counts from the sum over the records

module _ {cs ds rs : List ℕ} (L : Lent cs ds rs) {a : ℤ} {D : ℕ} {t : List ℕ} {count : ℕ} {e : Edge} (B : Tabled (constraint_of cs ds a) D e t count) where
  abbrev c : Constraint
  c = constraint_of cs ds a

  pub countable : Countable ds t count
  countable = table_countable cs ds rs L a t count B.few B.room B.records

  pub ends_le : length ds ≤ D
  ends_le = omega (arith, (order_words_lem (terms_of cs ds) L.limited).1, levels_length (terms_of cs ds), levels_count cs ds rs L, L.ends, B.booleans)

  pub nodes_fit : (l : Limits) → count ≤ node_limit l → length (nodes_for c) ≤ capacity l (length t)
  nodes_fit l h = omega (arith, B.counted, B.room)

  -- the counts that the code computes are the diagram's
  pub counts_are : counts_by ds D (labelled t count) count ≡ counts_of c
  counts_are =
      let p : count ≡ length (nodes_for c) = B.counted in
      let q : count + end_sum ds (labelled t count) ≡ edge_count (levels_in c) (nodes_for c) = omega (arith, edge_sum cs ds rs L (nodes_for c) (labelled t count) B.records, B.counted) in
      let r : 3 * (D - length ds) + 6 + 3 * count + 4 * end_sum ds (labelled t count) ≡ word_count (levels_in c) (nodes_for c) =
      omega (arith, word_sum cs ds rs L (nodes_for c) (labelled t count) B.records, B.counted, B.booleans, levels_count cs ds rs L, L.ends) in
      λ i. record { nodes = p i; edges = q i; words = r i }

-- equal counts agree in each part
pub same_nodes : {m n : Counts} → m ≡ n → m.nodes ≡ n.nodes
same_nodes is = ap (λ (x : Counts). x.nodes) is

pub same_edges : {m n : Counts} → m ≡ n → m.edges ≡ n.edges
same_edges is = ap (λ (x : Counts). x.edges) is

pub same_words : {m n : Counts} → m ≡ n → m.words ≡ n.words
same_words is = ap (λ (x : Counts). x.words) is

-- the diagram's counts, where they find room
pub roomy : (c : Constraint) (n : Counts) (es ws : List ℕ) → n ≡ counts_of c → n.edges ≤ length es → n.words ≤ length ws → Roomy c n es ws
roomy c n es ws is h k =
    record {
      nodes = same_nodes is;
      edges = same_edges is;
      words = same_words is;
      wide = subst (λ (x : Counts). x.edges ≤ length es) is h;
      long = subst (λ (x : Counts). x.words ≤ length ws) is k;
    }

-- a table of so many nodes, by another name of their number
pub renumbered : (c : Constraint) (D : ℕ) (e : Edge) (t : List ℕ) {m n : ℕ} → m ≡ n → Tabled c D e t n → Tabled c D e t m
renumbered c D e t is B = subst (Tabled c D e t) (sym is) B
