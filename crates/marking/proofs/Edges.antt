-- AN EDGE IS RIGHT, by the test, just where its word stands for an edge that leads where each number of the label belongs. A test of a label's two ends says
-- the same as one of each number between them. Assumes nothing.
use mathlib.Core.Path.{◌≡◌, refl}
use mathlib.Core.List.{List}
use mathlib.Core.Bool.{Bool, true, false, cond, ◌&&◌}
use Prim.Native.Nat.{ℕ, suc, ◌+◌, ◌-◌, ◌≤◌, ◌<◌}
use native.Mathlib.Nat.{le_refl}
use native.Mathlib.Omega.{arith}
use lib.Dec.{ltb, leb, eqb}
use lib.IntN.{ℤ, pos, negsuc}
use lib.ListN.{length, get_or, drop, length-map}
use borrow.Author.Tests.{ltb-true, leb-true, eqb-true, lt-ltb, le-ltb, le-leb, eq-eqb, ne_eqb}
use Rattle.word.specs.Word.{kind}
use Rattle.word.specs.Edge.{Edge, F, T, to, edge_word}
use Rattle.word.specs.Record.{Record, no_record}
use Rattle.word.proofs.Tests.{both_true, true_both}
use Rattle.diagram.specs.Level.{Level, R, less}
use Rattle.diagram.specs.Label.{Label, Holds, label_t, label_f, up}
use Rattle.diagram.specs.Table.{no_node}
use Rattle.diagram.specs.Claim.{node_at, Leads}
use Rattle.diagram.specs.Flat.{node_in}
use Rattle.diagram.proofs.Places.{map_at}
use Rattle.diagram.proofs.Drawn.{Child, below, above, at, child_cases}
use Rattle.marking.specs.HandIn.{StandsFor, own_label, drawing_of}
use Rattle.marking.specs.Judged.{interval_of, covers, names_record, end_right, edge_right}

-- a record of the hand-in, and the node of the drawing that it is
pub node_is : (ls : List Level) (xs : List Record) (es : List ℕ) (n : ℕ) → n < length xs → node_at (drawing_of ls xs es) n ≡ node_in ls es (get_or xs n no_record)
node_is ls xs es n h = map_at (node_in ls es) xs n no_node no_record h

module _ (ls : List Level) (xs : List Record) (es : List ℕ) (level : ℕ) (b : Label) (o w : ℕ) where
  abbrev Belongs : Edge → Type 0
  Belongs e = (z : ℤ) → Holds b z → Leads ls (drawing_of ls xs es) level e (less z o)

  F-holds : covers (up o label_f) b ≡ true → Belongs F
  F-holds p (pos z) h = let q = ltb-true b.upper (o + 0) p in rw (lt-ltb z o (omega arith)) tt
  F-holds p (negsuc z) h = absurd h

  T-holds : covers (up o (label_t (drop level ls))) b ≡ true → Belongs T
  T-holds p (pos z) h =
      let q = leb-true (o + R (drop level ls)) b.lower (both_true (leb (o + R (drop level ls)) b.lower) true p).0 in
      rw (le-ltb z o (omega arith)) (omega arith)
  T-holds p (negsuc z) h = absurd h

  -- the record that the word names
  abbrev y : Record
  y = get_or xs w no_record

  -- the test of an edge to it
  abbrev node_test : Bool
  node_test = names_record xs (suc level) w && covers (up o (interval_of (own_label y))) b

  names_record_lem : names_record xs (suc level) w ≡ true → (kind w ≡ 0) × (w < length xs) × (y.level ≡ suc level)
  names_record_lem p =
      let q = both_true (eqb (kind w) 0) (ltb w (length xs) && eqb y.level (suc level)) p in
      let r = both_true (ltb w (length xs)) (eqb y.level (suc level)) q.1 in
      (eqb-true (kind w) 0 q.0, ltb-true w (length xs) r.0, eqb-true y.level (suc level) r.1)

  covers_ends : covers (up o (interval_of (own_label y))) b ≡ true → (o + y.lower ≤ b.lower) × (b.upper < o + suc y.upper)
  covers_ends p =
      let r = both_true (leb (o + y.lower) b.lower) (ltb b.upper (o + suc y.upper)) p in
      (leb-true (o + y.lower) b.lower r.0, ltb-true b.upper (o + suc y.upper) r.1)

  node_holds : w < length xs → y.level ≡ suc level → o + y.lower ≤ b.lower → b.upper < o + suc y.upper → Belongs (to w)
  node_holds k e lo hi (pos z) h =
      rw (node_is ls xs es w k, le-ltb z o (omega arith)) ((rw length-map k, e), (omega arith, omega arith))
  node_holds k e lo hi (negsuc z) h = absurd h

  -- WHAT THE TEST OF AN EDGE SAYS
  pub edge_leads : edge_right (label_t (drop level ls)) xs (suc level) b o w ≡ true → (e : Edge) × StandsFor w e × Belongs e
  unfolding edge_right
  edge_leads = go (eqb w (edge_word F)) refl (eqb w (edge_word T)) refl
    where
      node : node_test ≡ true → (e : Edge) × StandsFor w e × Belongs e
      node p =
          let q = both_true (names_record xs (suc level) w) (covers (up o (interval_of (own_label y))) b) p in
          let n = names_record_lem q.0 in
          let c = covers_ends q.1 in
          (to w, (n.0, omega (arith, n.0)), node_holds n.1 n.2 c.0 c.1)

      go : (p : Bool) → eqb w (edge_word F) ≡ p → (q : Bool) → eqb w (edge_word T) ≡ q
          → end_right (label_t (drop level ls)) xs (suc level) b o (cond p F (cond q T (to w))) ≡ true → (e : Edge) × StandsFor w e × Belongs e
      go true e q f p = (F, eqb-true w (edge_word F) e, F-holds p)
      go false e true f p = (T, eqb-true w (edge_word T) f, T-holds p)
      go false e false f p = node p

  -- ---- The converse, where the label holds a number

  module _ (filled : b.lower ≤ b.upper) where
    -- what is known of a label's ends
    lowest : (e : Edge) → Belongs e → Child ls (drawing_of ls xs es) level b.lower o e
    lowest e p = child_cases ls (drawing_of ls xs es) level b.lower o e (p (pos b.lower) (le_refl b.lower, filled))

    highest : (e : Edge) → Belongs e → Child ls (drawing_of ls xs es) level b.upper o e
    highest e p = child_cases ls (drawing_of ls xs es) level b.upper o e (p (pos b.upper) (filled, le_refl b.upper))

    F-covers : Child ls (drawing_of ls xs es) level b.upper o F → covers (up o label_f) b ≡ true
    F-covers (below h) = lt-ltb b.upper (o + 0) (omega arith)

    T-covers : Child ls (drawing_of ls xs es) level b.lower o T → covers (up o (label_t (drop level ls))) b ≡ true
    T-covers (above h k) = true_both (le-leb (o + R (drop level ls)) b.lower (omega arith)) refl

    node_covers : kind w ≡ 0 → Child ls (drawing_of ls xs es) level b.lower o (to w) → Child ls (drawing_of ls xs es) level b.upper o (to w) → node_test ≡ true
    node_covers k (at h n lo hi) (at h' n' lo' hi') =
        let i : w < length xs = rw length-map at n.0 in
        let e = node_is ls xs es w i in
        let l : y.level ≡ suc level = rw e at n.1 in
        let lo₁ : y.lower ≤ b.lower - o = rw e at lo in
        let hi₁ : b.upper - o ≤ y.upper = rw e at hi' in
        true_both (true_both (eq-eqb (kind w) 0 k) (true_both (lt-ltb w (length xs) i) (eq-eqb y.level (suc level) l)))
        (true_both (le-leb (o + y.lower) b.lower (omega arith)) (lt-ltb b.upper (o + suc y.upper) (omega arith)))

    pub leads_edge : (e : Edge) → StandsFor w e → Belongs e → edge_right (label_t (drop level ls)) xs (suc level) b o w ≡ true
    unfolding edge_right
    leads_edge F s p = rw (eq-eqb w (edge_word F) s) (F-covers (highest F p))
    leads_edge T s p = rw (ne_eqb w (edge_word F) (λ q. omega arith), eq-eqb w (edge_word T) s) (T-covers (lowest T p))
    leads_edge (to n) s p =
        rw (ne_eqb w (edge_word F) (λ q. omega (arith, s.0)), ne_eqb w (edge_word T) (λ q. omega (arith, s.0)))
        (named (let e : n ≡ w = omega (arith, s.0, s.1) in e) p)
      where
        named : n ≡ w → Belongs (to n) → node_test ≡ true
        named e q = let r : Belongs (to w) = rw e at q in node_covers s.0 (lowest (to w) r) (highest (to w) r)
