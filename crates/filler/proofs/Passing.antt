-- WHAT THE PASSES HAND ON: a built table to the edge list, a linked one to the clauses, and the written lists to the result with zeros behind. Assumes nothing.
use mathlib.Core.Path.{◌≡◌, refl, sym, ap, subst, ◌∙◌}
use mathlib.Core.List.{List, [], ◌∷◌, map}
use Prim.Native.Nat.{ℕ, ◌*◌, ◌≤◌}
use native.Mathlib.Omega.{arith}
use lib.IntN.{ℤ}
use lib.ListN.{length, take}
use Rattle.diagram.specs.Constraint.{most_orders}
use Rattle.word.specs.Edge.{Edge}
use Rattle.word.specs.Record.{flat, record_words}
use Rattle.word.specs.Padded.{cleared}
use Rattle.word.proofs.Laid.{flat_length}
use Rattle.word.proofs.Cleared.{cleared_padded}
use Rattle.diagram.specs.Level.{Level}
use Rattle.diagram.specs.Table.{Node, table, root}
use Rattle.diagram.specs.Right.{Right}
use Rattle.diagram.specs.Flat.{records_from, table_words, edge_words, edge_count}
use Rattle.diagram.proofs.Drawn.{table_right}
use Rattle.diagram.proofs.Written.{records_from-length, edges_count}
use Rattle.diagram.proofs.Terms.{levels_length}
use Rattle.encoding.specs.Boolean.{orders}
use Rattle.encoding.specs.Pattern.{clause_words, word_count}
use Rattle.encoding.proofs.Fits.{right_filled, words_count}
use Rattle.encoding.proofs.Demand.{orders_le}
use Rattle.constraint.specs.Lent.{terms_of, levels_of, Lent}
use Rattle.constraint.proofs.Slices.{levels_good, levels_count}
use Rattle.linker.specs.Linked.{Finished, Linked}
use Rattle.clause_writer.specs.Drawing.{Drawing, Drawn, Listed}
use Rattle.clause_writer.proofs.Laws.{right_drawing}
use Rattle.filler.specs.declared.Counts.{Counts}
use Rattle.filler.specs.Filled.{constraint_of, Tabled, Roomy, Filled}
use Rattle.filler.proofs.Lists.{used_words}

doms : (cs ds : List ℕ) → length ds ≡ length cs → map (λ (l : Level). l.dom) (levels_of cs ds) ≡ ds
doms [] [] e = refl
doms [] (d ∷ ds) e = absurd (omega arith)
doms (c ∷ cs) [] e = absurd (omega arith)
doms (c ∷ cs) (d ∷ ds) e = ap (λ (xs : List ℕ). d ∷ xs) (doms cs ds (omega arith))

module _ (cs ds rs : List ℕ) (L : Lent cs ds rs) (a : ℤ) where
  abbrev ls : List Level
  ls = levels_of cs ds

  abbrev ns : List Node
  ns = table ls a

  abbrev top : Edge
  top = root ls a

  R : Right ls a ns top
  R = table_right ls a (levels_good cs ds rs L)

  edges_length : length (edge_words ns) ≡ edge_count ls ns
  edges_length = edges_count ls ns (right_filled ls a ns top R)

  words_length : length (clause_words ls top ns) ≡ word_count ls ns
  words_length = words_count ls top ns (right_filled ls a ns top R)

  orders_small : orders ls ≤ most_orders
  orders_small = omega (arith, orders_le (terms_of cs ds) L.limited, levels_length (terms_of cs ds), levels_count cs ds rs L, L.few)

  module _ (D : ℕ) (t : List ℕ) (count : ℕ) (e : Edge) (B : Tabled (constraint_of cs ds a) D e t count) where
    -- to the edge list
    pub finished : (n : Counts) (es ws : List ℕ) → Roomy (constraint_of cs ds a) n es ws → Finished cs ds a t count es
    finished n es ws M = record { few = B.few; room = B.room; records = B.records; wide = M.wide }

    -- to the clauses
    pub drawing : (es t' es' : List ℕ) → Linked cs ds a t count es t' es' → Drawing ls ns ds D t' count es' e
    drawing es t' es' K =
        subst (Drawing ls ns ds D t' count es') (sym B.root)
        (right_drawing R (doms cs ds L.ends) B.booleans (omega (arith, B.booleans, B.few, orders_small)) K.records B.counted
        (ap (λ (k : ℕ). take k es') edges_length ∙ K.edges))

    pub drawn : (n : Counts) (es ws t' es' : List ℕ) → Roomy (constraint_of cs ds a) n es ws → Linked cs ds a t count es t' es' → Drawn ds D t' count es' e (length ws)
    drawn n es ws t' es' M K = record { ls = ls; ns = ns; drawing = drawing es t' es' K; fits = M.long }

    -- to the result
    pub lists_filled : (n : Counts) (es ws t' es' ws' t'' es'' ws'' : List ℕ) (r : ℕ) → count ≡ n.nodes → Roomy (constraint_of cs ds a) n es ws → Linked cs ds a t count es t' es'
        → Listed ls ns e ws ws' r
        → t'' ≡ cleared (count * record_words) t' → es'' ≡ cleared n.edges es' → ws'' ≡ cleared n.words ws'
        → Filled (constraint_of cs ds a) t es ws t'' es'' ws''
    lists_filled n es ws t' es' ws' t'' es'' ws'' r q M K W p₁ p₂ p₃ =
        record {
          table = p₁ ∙ cleared_padded t' (table_words ns) (length t) (count * record_words) (used_words t' count (let h = B.room in omega arith) ∙ ap flat K.records) table_long K.table_kept;
          edges = p₂ ∙ cleared_padded es' (edge_words ns) (length es) n.edges (ap (λ (k : ℕ). take k es') M.edges ∙ K.edges) (edges_length ∙ sym M.edges) K.edges_kept;
          clauses = p₃ ∙ cleared_padded ws' (clause_words ls top ns) (length ws) n.words words_front (words_length ∙ sym M.words) W.kept;
        }
      where
        table_long : length (table_words ns) ≡ count * record_words
        table_long = omega (arith, flat_length (records_from ns 0 0 ns), records_from-length ns 0 0 ns, B.counted)

        words_front : take n.words ws' ≡ clause_words ls top ns
        words_front = ap (λ (k : ℕ). take k ws') (M.words ∙ sym W.words) ∙ W.front ∙ ap (λ (x : Edge). clause_words ls x ns) B.root
