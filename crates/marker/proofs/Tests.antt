-- A RECORD'S TESTS, one after the other: where one fails the record is wrong, and where all before the row hold its row decides. Assumes nothing.
use mathlib.Core.Path.{◌≡◌, refl, sym, ap, ◌∙◌}
use mathlib.Core.List.{List}
use mathlib.Core.Bool.{Bool, false, ◌&&◌, and-false}
use Prim.Native.Nat.{ℕ, suc, ◌+◌, ◌*◌, ◌-◌, ◌/◌, ◌≤◌, ◌<◌}
use native.Mathlib.Omega.{arith}
use native.Mathlib.Numerals.{add-one}
use lib.Dec.{leb}
use lib.ListN.{length, get_or, take, drop, length-take}
use borrow.Author.Tests.{le-leb, lt-leb}
use Rattle.word.specs.Record.{record_words, no_record, records, record_at}
use Rattle.diagram.specs.Level.{Level, R}
use Rattle.diagram.specs.Label.{interval, from, no_end}
use Rattle.constraint.specs.Lent.{levels_of, Lent}
use Rattle.constraint.proofs.Slices.{levels_count, dom_at, off_at, term_at, rest_at, rest_small}
use Rattle.word.proofs.Flat.{records_length, record_at_lem}
use Rattle.marking.specs.HandIn.{own_label, own_level}
use Rattle.marking.specs.Judged.{edge_right, each_value, row_right, record_right}
use Rattle.marker_edges.specs.declared.Parent.{Parent}
use Rattle.marker.specs.declared.Fields.{Fields}
use Rattle.marker_edges.specs.Parent.{edge_test, RowFits}
use Rattle.marker.specs.Fields.{fields_read, record_in}

-- the fields of record k are its words
pub fields_at : (t : List ℕ) (k : ℕ) → k < length t / record_words → fields_read (record_at t k) ≡ fields_read (get_or (records t) k no_record)
fields_at t k h = ap fields_read (sym (record_at_lem t k no_record (omega (arith, records_length t))))

-- ---- A record

module _ (cs ds rs : List ℕ) (L : Lent cs ds rs) (t es : List ℕ) (x : Fields) where
  abbrev ls : List Level
  ls = levels_of cs ds

  abbrev verdict : Bool
  verdict = record_right ls (records t) es (record_in x)

  pub no_level_lem : x.level < 1 → false ≡ verdict
  unfolding record_right
  no_level_lem h = rw (lt-leb 1 x.level h) refl

  pub level_past : length cs < x.level → false ≡ verdict
  unfolding record_right
  level_past h = rw (lt-leb x.level (length ls) (omega (arith, levels_count cs ds rs L)), and-false (leb 1 x.level)) refl

  pub ends_crossed : x.upper < x.lower → false ≡ verdict
  unfolding record_right
  ends_crossed h = rw (lt-leb x.lower x.upper h, and-false (leb 1 x.level && leb x.level (length ls))) refl

  module _ (h : 1 ≤ x.level) (k : x.level ≤ length cs) (q : ℕ) (e : q ≡ x.first + suc (get_or ds (x.level - 1) 0)) where
    -- the place behind the edges
    behind : x.first + suc (own_level ls (record_in x)).dom ≡ q
    behind = ap (λ (d : ℕ). x.first + suc d) (dom_at cs ds rs L (x.level - 1) (omega arith)) ∙ sym e

    pub edges_past : length es < q → false ≡ verdict
    unfolding record_right
    edges_past n =
        rw (behind, lt-leb q (length es) n, and-false (leb x.lower x.upper), and-false (leb 1 x.level && leb x.level (length ls))) refl

    -- the record's row by the slices
    abbrev parent : Parent
    parent = record { below = x.level + 1; lower = x.lower; upper = x.upper; rest = get_or rs x.level 0 }

    abbrev coef : ℕ
    coef = get_or cs (x.level - 1) 0

    pub row_small : RowFits parent coef (length (take (q - x.first) (drop x.first es)))
    row_small =
        let m = term_at cs ds rs L (x.level - 1) (omega arith) in
        let d : get_or ds (x.level - 1) 0 ≤ 15 = m.1 in
        (simp length-take (omega arith), m.3, omega (arith, rest_at cs ds rs L x.level k, rest_small cs ds rs L x.level))

    -- the row by R below, the level of its children, what each value takes, and how many values there are
    abbrev row_by : ℕ → ℕ → (ℕ → ℕ) → ℕ → Bool
    row_by rest level off n = each_value (λ j. edge_right (interval (from rest) no_end) (records t) level (own_label (record_in x)) (off j)) 0 (take n (drop x.first es))

    row_is : row_right ls (records t) es (record_in x) ≡ row_by (get_or rs x.level 0) (x.level + 1) (λ j. coef * j) (q - x.first)
    row_is =
        let width : suc (own_level ls (record_in x)).dom ≡ q - x.first = omega (arith, behind) in
        ap (row_by (R (drop x.level ls)) (suc x.level) (own_level ls (record_in x)).off) width
        ∙ ap (λ (f : ℕ → ℕ). row_by (R (drop x.level ls)) (suc x.level) f (q - x.first)) (λ i j. off_at cs ds rs L (x.level - 1) j (omega arith) i)
        ∙ ap (λ (r : ℕ). row_by r (suc x.level) (λ j. coef * j) (q - x.first)) (sym (rest_at cs ds rs L x.level k))
        ∙ ap (λ (n : ℕ). row_by (get_or rs x.level 0) n (λ j. coef * j) (q - x.first)) (sym (add-one x.level))

    pub row_decides : x.lower ≤ x.upper → q ≤ length es → (b : Bool) → b ≡ each_value (λ j. edge_test t parent (coef * j)) 0 (take (q - x.first) (drop x.first es)) → b ≡ verdict
    unfolding record_right
    row_decides f n b g = g ∙ sym (rw (le-leb 1 x.level h, le-leb x.level (length ls) (omega (arith, levels_count cs ds rs L)), le-leb x.lower x.upper f, behind, le-leb q (length es) n) row_is)
