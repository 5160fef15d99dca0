-- In closed bytes THE RAISED VALUES, the lowest with one open Boolean (i, j) made false, solve the constraint too: up to level i their path is settled true, and
-- after it not false. Assumes nothing.
use mathlib.Core.Path.{◌≡◌, refl, sym, ap, subst, ◌∙◌}
use mathlib.Core.List.{List}
use mathlib.Core.Bool.{Bool, true, false, cond, true≢false}
use Prim.Native.Nat.{ℕ, suc, ◌+◌, ◌-◌, ◌≤◌, ◌<◌}
use native.Mathlib.Omega.{arith}
use lib.Dec.{eqb, leb, ltb}
use lib.IntN.{ℤ}
use lib.ListN.{length, get_or}
use borrow.Author.Tests.{eqb-true, eqb-false, eq-eqb, ne_eqb, leb-true, leb-false, le-leb, lt-leb, ltb-true, ltb-false}
use Rattle.word.specs.Edge.{Edge, F, edge_boolean}
use Rattle.diagram.specs.Level.{Level, AllAscend, total, AtMost}
use Rattle.diagram.specs.Table.{Node}
use Rattle.diagram.specs.Claim.{node_at, level_at, OfLevel}
use Rattle.diagram.specs.Right.{Right}
use Rattle.clause.specs.Meaning.{Values}
use Rattle.encoding.specs.Boolean.{orders, orders_before, Ordered, OrderRule, falses, chosen}
use Rattle.encoding.proofs.Rule.{order_at, falses_le, chosen_at, value_ge, value_lt, earlier, order_from}
use Rattle.encoding.proofs.Path.{covered}
use Rattle.propagation.specs.Derived.{byte}
use Rattle.exactness.proofs.Closed.{EdgeClosed, ClosedDrawing}
use Rattle.exactness.proofs.Lowest.{lowest, highest, low_false, low_true, low_keeps, high_rule, edge_closed as edge-closed-at, lowest_rule as lowest-rule-at}

module _ (ls : List Level) (a : ℤ) (ns : List Node) (top : Edge) (g : AllAscend ls) (r : Right ls a ns top) (p : ℕ → ℕ) (c : ClosedDrawing p ls top ns) where
  edge_closed : (n i j : ℕ) → OfLevel ns i n → j ≤ (level_at ls i).dom
      → EdgeClosed p (orders ls + 3 + n) (orders_before ls i + j) j (edge_boolean (orders ls) (get_or (node_at ns n).children j F))
  edge_closed = edge-closed-at ls a ns top g r p c

  lowest_rule : OrderRule (lowest p) 0 ls
  lowest_rule = lowest-rule-at ls a ns top g r p c

  -- one open Boolean (i, j), made false with those before it in its level
  module _ (i j : ℕ) (h : i < length ls) (s : 1 ≤ j) (k : j ≤ (level_at ls i).dom) (not-true : p (orders_before ls i + j) ≡ 1 → ⊥) (not-false : p (orders_before ls i + j) ≡ 0 → ⊥) where
    abbrev pub raised_values : Values
    raised_values b = cond (leb b (orders_before ls i)) (lowest p b) (cond (leb b (orders_before ls i + j)) false (lowest p b))

    before_it : (b : ℕ) → b ≤ orders_before ls i → raised_values b ≡ lowest p b
    before_it b m = rw (le-leb b (orders_before ls i) m)

    in_it : (b : ℕ) → orders_before ls i < b → b ≤ orders_before ls i + j → raised_values b ≡ false
    in_it b m n = rw (lt-leb b (orders_before ls i) m, le-leb b (orders_before ls i + j) n)

    after_it : (b : ℕ) → orders_before ls i + j < b → raised_values b ≡ lowest p b
    after_it b m = rw (lt-leb b (orders_before ls i) (omega arith), lt-leb b (orders_before ls i + j) m)

    -- at another level the Booleans are as they were
    elsewhere : (l x : ℕ) → l < length ls → (l ≡ i → ⊥) → 1 ≤ x → x ≤ (level_at ls l).dom → raised_values (orders_before ls l + x) ≡ lowest p (orders_before ls l + x)
    elsewhere l x m d u t = go (ltb l i) refl
      where
        go : (y : Bool) → ltb l i ≡ y → raised_values (orders_before ls l + x) ≡ lowest p (orders_before ls l + x)
        go true e = let z : l < i = ltb-true l i e in before_it (orders_before ls l + x) (omega (arith, earlier ls l i z m))
        go false e =
            let z = ltb-false l i e in
            let n : ¬ (l ≡ i) = d in
            let q : i < l = omega arith in
            after_it (orders_before ls l + x) (omega (arith, earlier ls i l q h))

    pub raised_rule : OrderRule raised_values 0 ls
    raised_rule = order_from raised_values 0 ls (λ l m. level l m (eqb l i) refl)
      where
        low : (l : ℕ) → l < length ls → Ordered (lowest p) (0 + orders_before ls l) (level_at ls l).dom
        low l m = order_at (lowest p) 0 ls l lowest_rule m

        zero_off : (l x : ℕ) → 0 + orders_before ls l + x ≡ orders_before ls l + x
        zero_off l x = omega arith

        here : (x : ℕ) (y : Bool) → 1 ≤ x → x < (level_at ls i).dom → leb x j ≡ y → raised_values (0 + orders_before ls i + x) ≡ true → raised_values (0 + orders_before ls i + suc x) ≡ true
        here x true u t e f = absurd (true≢false (sym f ∙ in_it (0 + orders_before ls i + x) (omega arith) (omega (arith, leb-true x j e))))
        here x false u t e f =
            let z = leb-false x j e in
            after_it (0 + orders_before ls i + suc x) (omega arith) ∙ low i h x u t (sym (after_it (0 + orders_before ls i + x) (omega arith)) ∙ f)

        level : (l : ℕ) → l < length ls → (y : Bool) → eqb l i ≡ y → Ordered raised_values (0 + orders_before ls l) (level_at ls l).dom
        level l m true e = let q : i ≡ l = sym (eqb-true l i e) in subst (λ (x : ℕ). Ordered raised_values (0 + orders_before ls x) (level_at ls x).dom) q (λ x u t. here x (leb x j) u t refl)
        level l m false e = λ x u t f.
            ap raised_values (zero_off l (suc x))
            ∙ elsewhere l (suc x) m (eqb-false l i e) (omega arith) t
            ∙ ap (lowest p) (sym (zero_off l (suc x)))
            ∙ low l m x u t (ap (lowest p) (zero_off l x) ∙ sym (elsewhere l x m (eqb-false l i e) u (omega arith)) ∙ ap raised_values (sym (zero_off l x)) ∙ f)

    -- its level's value is j
    raised_value : get_or (chosen raised_values 0 ls) i 0 ≡ j
    raised_value = go (chosen_at raised_values 0 ls i h) (ltb j y) refl (raised_values (0 + orders_before ls i + y)) refl
      where
        y : ℕ
        y = falses raised_values (0 + orders_before ls i) (level_at ls i).dom

        le : y ≤ (level_at ls i).dom
        le = falses_le raised_values (0 + orders_before ls i) (level_at ls i).dom

        ge : j ≤ y
        ge = value_ge raised_values (0 + orders_before ls i) (level_at ls i).dom j (order_at raised_values 0 ls i raised_rule h) s k (in_it (0 + orders_before ls i + j) (omega arith) (omega arith))

        go : get_or (chosen raised_values 0 ls) i 0 ≡ y → (t : Bool) → ltb j y ≡ t → (u : Bool) → raised_values (0 + orders_before ls i + y) ≡ u → get_or (chosen raised_values 0 ls) i 0 ≡ j
        go q false e u f = omega (arith, q, ge, ltb-false j y e)
        go q true e true f = absurd (omega (arith, value_lt raised_values (0 + orders_before ls i) (level_at ls i).dom y (order_at raised_values 0 ls i raised_rule h) (omega (arith, ge)) le f))
        go q true e false f =
            let z = ltb-true j y e in
            let b : lowest p (0 + orders_before ls i + y) ≡ false = sym (after_it (0 + orders_before ls i + y) (omega arith)) ∙ f in
            let w : orders_before ls i + j ≡ 0 + orders_before ls i + j = omega arith in
            let d : lowest p (0 + orders_before ls i + j) ≡ true = ap (lowest p) (sym w) ∙ low_true p (orders_before ls i + j) not-false in
            absurd (omega (
              arith,
              value_ge (lowest p) (0 + orders_before ls i) (level_at ls i).dom y (order_at (lowest p) 0 ls i lowest_rule h) (omega (arith, ge)) le b,
              value_lt (lowest p) (0 + orders_before ls i) (level_at ls i).dom j (order_at (lowest p) 0 ls i lowest_rule h) s k d,
            ))

    -- THE RAISED VALUES solve: up to that level their path is settled true, and after it not false
    pub raised_solves : AtMost (total ls (chosen raised_values 0 ls)) a
    raised_solves =
        covered ls a ns top g r raised_values raised_rule (λ l e. (l ≤ i → p (edge_boolean (orders ls) e) ≡ 1) × (p (edge_boolean (orders ls) e) ≡ 0 → ⊥)) (λ l q. q.1 c.bottom)
        (λ l n m u q w f. (first l n m u q w f, second l n m u q w f (eqb l i) refl))
        (λ z. c.root, λ e. omega (arith, e, c.root))
      where
        y : ℕ → ℕ
        y l = get_or (chosen raised_values 0 ls) l 0

        shut : (l : ℕ) → l < length ls → (l ≡ i → ⊥) → y l ≤ (level_at ls l).dom → (1 ≤ y l → raised_values (orders_before ls l + y l) ≡ false) → 1 ≤ y l → p (orders_before ls l + y l) ≡ 0
        shut l m d w f t = low_false p (orders_before ls l + y l) (sym (elsewhere l (y l) m d t w) ∙ f t)

        first : (l n : ℕ) → l < length ls → OfLevel ns l n → (l ≤ i → p (orders ls + 3 + n) ≡ 1) × (p (orders ls + 3 + n) ≡ 0 → ⊥)
            → y l ≤ (level_at ls l).dom → (1 ≤ y l → raised_values (orders_before ls l + y l) ≡ false) → suc l ≤ i → p (edge_boolean (orders ls) (get_or (node_at ns n).children (y l) F)) ≡ 1
        first l n m u q w f z = (edge_closed n l (y l) u w).down (q.0 (omega arith)) (shut l m (λ x. omega (arith, x)) w f)

        second : (l n : ℕ) → l < length ls → OfLevel ns l n → (l ≤ i → p (orders ls + 3 + n) ≡ 1) × (p (orders ls + 3 + n) ≡ 0 → ⊥)
            → y l ≤ (level_at ls l).dom → (1 ≤ y l → raised_values (orders_before ls l + y l) ≡ false) → (x : Bool) → eqb l i ≡ x
            → p (edge_boolean (orders ls) (get_or (node_at ns n).children (y l) F)) ≡ 0 → ⊥
        second l n m u q w f false d z = q.1 ((edge_closed n l (y l) u w).up z (shut l m (eqb-false l i d) w f))
        second l n m u q w f true d z =
            let b : l ≡ i = eqb-true l i d in
            let v : y l ≡ j = ap y b ∙ raised_value in
            let t : orders_before ls l + y l ≡ orders_before ls i + j = omega (arith, ap (orders_before ls) b, v) in
            not-true (ap p (sym t) ∙ (edge_closed n l (y l) u w).side (q.0 (omega arith)) z (omega arith))

    pub raised_keeps : (b : ℕ) (x : Bool) → p b ≡ byte x → raised_values b ≡ x
    raised_keeps b x e = go (leb b (orders_before ls i)) (leb b (orders_before ls i + j)) refl refl x e
      where
        go : (t u : Bool) → leb b (orders_before ls i) ≡ t → leb b (orders_before ls i + j) ≡ u → (x : Bool) → p b ≡ byte x → raised_values b ≡ x
        go true u f q x e = before_it b (leb-true _ _ f) ∙ low_keeps p b x e
        go false false f q x e = after_it b (leb-false _ _ q) ∙ low_keeps p b x e
        go false true f q false e = in_it b (leb-false _ _ f) (leb-true _ _ q)
        go false true f q true e =
            let m = leb-false b (orders_before ls i) f in
            let n = leb-true b (orders_before ls i + j) q in
            let w : b ≡ 0 + orders_before ls i + (b - orders_before ls i) = omega arith in
            let z : highest p (0 + orders_before ls i + (b - orders_before ls i)) ≡ true = ap (highest p) (sym w) ∙ eq-eqb (p b) 1 e in
            let o : orders_before ls i + j ≡ 0 + orders_before ls i + j = omega arith in
            let d : highest p (0 + orders_before ls i + j) ≡ false = ap (highest p) (sym o) ∙ ne_eqb (p (orders_before ls i + j)) 1 not-true in
            let rule = order_at (highest p) 0 ls i (high_rule p 0 ls c.kept) h in
            absurd (omega (
              arith,
              value_lt (highest p) (0 + orders_before ls i) (level_at ls i).dom (b - orders_before ls i) rule (omega arith) (omega arith) z,
              value_ge (highest p) (0 + orders_before ls i) (level_at ls i).dom j rule s k d,
            ))

    pub raised_here : raised_values (orders_before ls i + j) ≡ false
    raised_here = in_it (orders_before ls i + j) (omega arith) (omega arith)
