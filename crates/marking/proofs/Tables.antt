-- THE TABLE OF A CONSTRAINT IS A RIGHT HAND-IN: its records, with its edge list and whatever stands behind that, are accepted. Assumes nothing.
use mathlib.Core.Path.{◌≡◌, refl, sym, ap, subst, ◌∙◌}
use mathlib.Core.Logic.{inl, inr}
use mathlib.Core.List.{List, [], ◌∷◌, ◌++◌}
use mathlib.Core.Bool.{Bool, true, false}
use Prim.Native.Nat.{ℕ, suc, ◌+◌, ◌≤◌, ◌<◌}
use native.Mathlib.Omega.{arith}
use lib.Dec.{ltb}
use lib.IntN.{ℤ, pos, negsuc}
use lib.ListN.{length, get_or, length-append}
use borrow.Author.Tests.{ltb-true, ltb-false}
use Rattle.word.specs.Edge.{Edge}
use Rattle.word.specs.Record.{Record, no_record, laid, records, most_nodes}
use Rattle.word.proofs.Laid.{flat_behind, flat_records}
use Rattle.std.specs.Prelude.{Err}
use Rattle.refusal.specs.Table.{passed}
use Rattle.refusal.specs.declared.Refusal.TheVariants.{BadRecord}
use Rattle.diagram.specs.Level.{Level, AllAscend, R}
use Rattle.diagram.specs.Label.{Holds}
use Rattle.diagram.specs.Table.{Node, table, root}
use Rattle.diagram.specs.Claim.{node_at, OfLevel, Leads}
use Rattle.diagram.specs.Flat.{records_from, table_words, edge_words}
use Rattle.diagram.specs.Right.{Right}
use Rattle.diagram.proofs.Drawn.{table_right}
use Rattle.diagram.proofs.Rooted.{root_f, root_t, root_to}
use Rattle.diagram.proofs.Written.{records_from-length, table_record, place_inside, records_drawn}
use Rattle.encoding.proofs.Fits.{right_filled}
use Rattle.encoding.proofs.Plain.{right_plain}
use Rattle.marking.specs.HandIn.{own_level, drawing_of, RightRoot, Decided, RightHandIn}
use Rattle.marking.specs.Judged.{judged}
use Rattle.marking.proofs.Judged.{passes_right, names_bad}
use Rattle.marking.proofs.Drawing.{drawn_right}
use Rattle.marking.proofs.Behind.{first_behind}

-- ---- The root of a table

-- the bound is decided and there are no nodes, or node 0 is at level 1 and holds it
data Top (ls : List Level) (a : ℤ) (ns : List Node) : Type 0 where
  none : ns ≡ [] → Decided ls a → Top ls a ns
  some : OfLevel ns 0 0 → Holds (node_at ns 0).lab a → Top ls a ns

table_top : (ls : List Level) (a : ℤ) → AllAscend ls → Top ls a (table ls a)
table_top ls (negsuc z) g = none (root_f ls z).1 (inl tt)
table_top ls (pos z) g = go (ltb z (R ls)) refl
  where
    go : (t : Bool) → ltb z (R ls) ≡ t → Top ls (pos z) (table ls (pos z))
    go true e =
        let h = subst (λ (x : Edge). Leads ls (table ls (pos z)) 0 x (pos z)) (root_to ls z (ltb-true z (R ls) e)) (table_right ls (pos z) g).rooted in
        some h.0 h.1
    go false e = let h = ltb-false z (R ls) e in none (root_t ls z h).1 (inr h)

-- ---- The records of a right drawing

module _ (ls : List Level) (a : ℤ) (ns : List Node) (top : Edge) (r : Right ls a ns top) (few : length ns ≤ most_nodes) (behind : List ℕ) where
  abbrev es : List ℕ
  es = edge_words ns ++ behind

  abbrev xs : List Record
  xs = records_from ns 0 0 ns

  same_length : length xs ≡ length ns
  same_length = records_from-length ns 0 0 ns

  -- the drawing that they hand in is the one that was written
  drawn_is : drawing_of ls xs es ≡ ns
  drawn_is = records_drawn ls ns behind (right_plain ls a ns top r few)

  inside : (n : ℕ) → n < length xs → (get_or xs n no_record).first + suc (own_level ls (get_or xs n no_record)).dom ≤ length es
  inside n h =
      let k : n < length ns = omega (arith, same_length) in
      rw (table_record ns n k) (omega (arith, right_filled ls a ns top r n k, place_inside ns n k, length-append (edge_words ns) behind))

  -- THE RECORDS AND EDGES OF A RIGHT DRAWING are a right hand-in where node 0 is the root
  written_right : Top ls a ns → RightHandIn ls a xs es
  written_right t =
      drawn_right ls a xs es top (subst (λ (m : List Node). Right ls a m top) (sym drawn_is) r) (omega (arith, same_length)) inside (root_is t) (empty t)
    where
      root_is : Top ls a ns → 0 < length xs → RightRoot a (get_or xs 0 no_record)
      root_is (none q d) h = absurd (let z : length ns ≡ 0 = ap length q in omega (arith, same_length))
      root_is (some o b) h = rw (table_record ns 0 o.0) record { first_level = o.1; bound = b }

      empty : Top ls a ns → length xs ≡ 0 → Decided ls a
      empty (none q d) e = d
      empty (some o b) e = absurd (omega (arith, o.0, same_length))

-- the table of a constraint, with whatever stands behind its edge list, is a right hand-in
module _ (ls : List Level) (a : ℤ) (g : AllAscend ls) (few : length (table ls a) ≤ most_nodes) (behind : List ℕ) where
  abbrev own_records : List Record
  own_records = records_from (table ls a) 0 0 (table ls a)

  table_handed : RightHandIn ls a own_records (edge_words (table ls a) ++ behind)
  table_handed = written_right ls a (table ls a) (root ls a) (table_right ls a g) few behind (table_top ls a g)

  -- THE TABLE OF A CONSTRAINT, as words and with whatever stands behind its edge list, is accepted
  pub table_passes : judged ls a (records (table_words (table ls a))) (edge_words (table ls a) ++ behind) ≡ passed
  table_passes =
      ap (λ (xs : List Record). judged ls a xs (edge_words (table ls a) ++ behind)) (flat_records own_records)
      ∙ (passes_right ls a own_records (edge_words (table ls a) ++ behind)).1 table_handed

  -- but WITH A RECORD OF ZEROS BEHIND IT the first bad record is that one: level 0 is no term's
  pub zeros_bad : (rest : List ℕ) → judged ls a (records (table_words (table ls a) ++ (laid no_record ++ rest))) (edge_words (table ls a) ++ behind) ≡ Err (BadRecord (length (table ls a)))
  unfolding records
  zeros_bad rest =
      let es = edge_words (table ls a) ++ behind in
      let all = own_records ++ no_record ∷ records rest in
      ap (λ (xs : List Record). judged ls a xs es) (flat_behind own_records (laid no_record ++ rest))
      ∙ (names_bad ls a all es (length own_records)).1 (first_behind ls a own_records no_record (records rest) es table_handed (λ r. absurd (omega (arith, r.above))))
      ∙ ap (λ (n : ℕ). Err (BadRecord n)) (records_from-length (table ls a) 0 0 (table ls a))
