-- THE TESTS OF AN EDGE AND OF A ROW, turn by turn: what each branch of the code says of the definition. Assumes nothing.
use mathlib.Core.Path.{◌≡◌, refl, sym, ap, ◌∙◌}
use mathlib.Core.List.{List}
use mathlib.Core.Bool.{Bool, true, false, ◌&&◌, and-false}
use Prim.Native.Nat.{ℕ, suc, ◌+◌, ◌*◌, ◌≤◌, ◌<◌}
use native.Mathlib.Nat.{mul-suc}
use native.Mathlib.Omega.{arith}
use native.Mathlib.Numerals.{add-one}
use lib.Dec.{ltb, eqb}
use lib.ListN.{length, get_or, drop, drop_of_length-le}
use lib.Seq.{drop-cons}
use borrow.Author.Tests.{ltb-true, lt-ltb, eq-eqb, ne_eqb}
use Rattle.word.specs.Word.{kind}
use Rattle.word.specs.Edge.{Edge, to, edge_in}
use Rattle.word.specs.Record.{record_words, lower_word, upper_word, no_record, records}
use Rattle.diagram.specs.Label.{up}
use Rattle.word.proofs.Flat.{records_length, record_at_lem}
use Rattle.marking.specs.HandIn.{own_label}
use Rattle.marking.specs.Judged.{interval_of, covers, edge_right, each_value}
use Rattle.marker_edges.specs.declared.Parent.{Parent}
use Rattle.marker_edges.specs.Parent.{parent_label, numbers_in, end_test, edge_test}

-- ---- The end of an edge

module _ (t : List ℕ) (p : Parent) (o : ℕ) where
  module _ (k : ℕ) where
    -- a number beyond the records', or beyond the words of kind 0
    pub number_past : numbers_in t ≤ k → false ≡ end_test t p o (to k)
    number_past h = go (ltb k (length (records t))) refl
      where
        more : Bool
        more = covers (up o (interval_of (own_label (get_or (records t) k no_record)))) (parent_label p)

        go : (b : Bool) → ltb k (length (records t)) ≡ b → false ≡ (eqb (kind k) 0 && (b && eqb (get_or (records t) k no_record).level p.below) && more)
        go true e = let i = ltb-true k (length (records t)) e in rw (ne_eqb (kind k) 0 (λ q. omega (arith, records_length t))) refl
        go false e = rw (and-false (eqb (kind k) 0)) refl

    module _ (known : k < numbers_in t) where
      here : k < length (records t)
      here = omega (arith, records_length t)

      -- the child's label, from its words
      abbrev child_covers : Bool
      child_covers = covers (up o (interval_of (record { lower = get_or t (k * record_words + lower_word) 0; upper = get_or t (k * record_words + upper_word) 0 }))) (parent_label p)

      node_test_lem : end_test t p o (to k) ≡ (eqb (get_or t (k * record_words) 0) p.below && child_covers)
      node_test_lem = rw (eq-eqb (kind k) 0 (omega arith), lt-ltb k (length (records t)) here, record_at_lem t k no_record here) refl

      pub other_level : (get_or t (k * record_words) 0 ≡ p.below → ⊥) → false ≡ end_test t p o (to k)
      other_level h = sym (node_test_lem ∙ rw (ne_eqb (get_or t (k * record_words) 0) p.below h) refl)

      pub same_level : get_or t (k * record_words) 0 ≡ p.below → (b : Bool) → b ≡ child_covers → b ≡ end_test t p o (to k)
      same_level h b e = e ∙ sym (node_test_lem ∙ rw (eq-eqb (get_or t (k * record_words) 0) p.below h) refl)

  -- the test by an edge's word is the one by its end
  pub by_end : (w : ℕ) (e : Edge) → e ≡ edge_in w → (b : Bool) → b ≡ end_test t p o e → b ≡ edge_test t p o w
  unfolding edge_right
  by_end w e is b f = f ∙ ap (end_test t p o) is

-- ---- A row

module _ (t : List ℕ) (p : Parent) (coef : ℕ) (ws : List ℕ) where
  abbrev test : ℕ → ℕ → Bool
  test j = edge_test t p (coef * j)

  -- THE EDGES BEFORE VALUE j are right: the row is what is left of it, and j takes the offset
  pub record EdgesBefore (offset j : ℕ) : Type 0 where
    pub within : j ≤ length ws
    pub taken : offset ≡ coef * j
    pub left : each_value test 0 ws ≡ each_value test j (drop j ws)

  module _ (offset j : ℕ) (a : EdgesBefore offset j) where
    module _ (h : j < length ws) where
      step : each_value test 0 ws ≡ (edge_test t p offset (get_or ws j 0) && each_value test (suc j) (drop (suc j) ws))
      unfolding each_value
      step = rw a.taken (a.left ∙ ap (each_value test j) (drop-cons ws j 0 h))

      pub row_fails : (b : Bool) → b ≡ edge_test t p offset (get_or ws j 0) → b ≡ false → false ≡ each_value test 0 ws
      row_fails b e f = sym (step ∙ rw (sym e ∙ f) refl)

      pub row_goes_on : (b : Bool) → b ≡ edge_test t p offset (get_or ws j 0) → b ≡ true → EdgesBefore (offset + coef) (j + 1)
      row_goes_on b e f =
          record {
            within = omega arith;
            taken = rw (add-one j, mul-suc coef j) (omega (arith, a.taken));
            left = rw (add-one j) (step ∙ rw (sym e ∙ f) refl);
          }

    pub row_ends : length ws ≤ j → true ≡ each_value test 0 ws
    unfolding each_value
    row_ends h = sym (a.left ∙ ap (each_value test j) (drop_of_length-le ws h))
