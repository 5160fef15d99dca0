-- THE JUDGEMENT IS RIGHT: it passes just the right hand-ins, and the record that it names is the first bad one. Assumes nothing.
use mathlib.Core.Path.{◌≡◌, refl, sym, subst, ◌∙◌}
use mathlib.Core.Logic.{◌↔◌, ◌⊎◌, inl, inr}
use mathlib.Core.List.{List, [], ◌∷◌}
use mathlib.Core.Bool.{Bool, true, false, cond, ◌&&◌, and-false, true≢false}
use Prim.Native.Nat.{ℕ, zero, suc, ◌+◌, ◌≤◌, ◌<◌}
use native.Mathlib.Nat.{not-suc-le-zero}
use native.Mathlib.Omega.{arith}
use lib.Dec.{ltb, leb, eqb}
use lib.IntN.{ℤ, pos, negsuc}
use lib.ListN.{length, get_or, drop}
use borrow.Author.Tests.{ltb-true, ltb-false, leb-true, eqb-true, lt-ltb, le-leb, eq-eqb, ne_eqb}
use Rattle.word.specs.Record.{Record, no_record, most_nodes}
use Rattle.word.proofs.Tests.{both_true, true_both, between_is}
use Rattle.refusal.specs.Table.{unless}
use Rattle.refusal.specs.Table.{Checked}
use Rattle.std.specs.Prelude.{Ok, Err}
use Rattle.refusal.specs.Table.{passed}
use Rattle.refusal.specs.declared.Refusal.TheVariants.{BadRecord}
use Rattle.diagram.specs.Level.{Level, R}
use Rattle.diagram.specs.Label.{Label, Holds, label_t}
use Rattle.marking.specs.HandIn.{own_label, own_level, LeadsRight, RightRecord, RightRoot, RightAt, Decided, RightHandIn, FirstBad}
use Rattle.marking.specs.Judged.{edge_right, own_row, row_right, record_right, holds_bound, root_right, place_right, right_at, each_record, decided, judged}
use Rattle.marking.proofs.Rows.{row_full, row_word}
use Rattle.marking.proofs.Edges.{edge_leads, leads_edge}
use Rattle.marking.proofs.Each.{value_passes, passes_value, Told, records_told}

module _ (ls : List Level) (xs : List Record) (es : List ℕ) (x : Record) where
  -- the test of the edge of a value, and whether the edges lie in the edge list
  abbrev test : ℕ → ℕ → Bool
  test j = edge_right (label_t (drop x.level ls)) xs (suc x.level) (own_label x) ((own_level ls x).off j)

  abbrev EdgesInside : Type 0
  EdgesInside = x.first + suc (own_level ls x).dom ≤ length es

  row_leads : EdgesInside → row_right ls xs es x ≡ true → (j : ℕ) → j ≤ (own_level ls x).dom → LeadsRight ls xs es x j
  row_leads h p j k =
      let v : test (0 + j) (get_or (own_row ls es x) j 0) ≡ true = value_passes test 0 (own_row ls es x) p j (omega (arith, row_full ls es x h)) in
      let e : 0 + j ≡ j = omega arith in
      let l = edge_leads ls xs es x.level (own_label x) ((own_level ls x).off j) (get_or es (x.first + j) 0) (rw (e, row_word ls es x j k) at v) in
      record { edge = l.0; stands = l.1; holds = l.2 }

  leads_row : x.lower ≤ x.upper → EdgesInside → ((j : ℕ) → j ≤ (own_level ls x).dom → LeadsRight ls xs es x j) → row_right ls xs es x ≡ true
  leads_row f h p =
      passes_value test 0 (own_row ls es x) (λ j k. let n : j ≤ (own_level ls x).dom = omega (arith, row_full ls es x h) in
      let e : 0 + j ≡ j = omega arith in
      let l = p j n in
      rw (e, row_word ls es x j n) (leads_edge ls xs es x.level (own_label x) ((own_level ls x).off j) (get_or es (x.first + j) 0) f l.edge l.stands l.holds))

  -- A RECORD BY ITSELF
  pub record_right_lem : record_right ls xs es x ≡ true ↔ RightRecord ls xs es x
  unfolding record_right
  record_right_lem = (says, holds)
    where
      says : (leb 1 x.level && leb x.level (length ls)) && (leb x.lower x.upper && (leb (x.first + suc (own_level ls x).dom) (length es) && row_right ls xs es x)) ≡ true
          → RightRecord ls xs es x
      says p =
          let a = both_true (leb 1 x.level && leb x.level (length ls)) _ p in
          let l = between_is 1 x.level (length ls) a.0 in
          let b = both_true (leb x.lower x.upper) _ a.1 in
          let c = both_true (leb (x.first + suc (own_level ls x).dom) (length es)) (row_right ls xs es x) b.1 in
          let i = leb-true (x.first + suc (own_level ls x).dom) (length es) c.0 in
          record { above = l.0; below = l.1; filled = leb-true x.lower x.upper b.0; inside = i; child = row_leads i c.1 }

      holds : RightRecord ls xs es x
          → (leb 1 x.level && leb x.level (length ls)) && (leb x.lower x.upper && (leb (x.first + suc (own_level ls x).dom) (length es) && row_right ls xs es x)) ≡ true
      holds r =
          true_both (true_both (le-leb 1 x.level r.above) (le-leb x.level (length ls) r.below))
          (true_both (le-leb x.lower x.upper r.filled)
          (true_both (le-leb (x.first + suc (own_level ls x).dom) (length es) r.inside) (leads_row r.filled r.inside r.child)))

-- THE ROOT
holds_bound_lem : (b : Label) (a : ℤ) → holds_bound b a ≡ true ↔ Holds b a
holds_bound_lem b (pos z) = (between_is b.lower z b.upper, λ h. true_both (le-leb b.lower z h.0) (le-leb z b.upper h.1))
holds_bound_lem b (negsuc z) = (λ e. absurd (true≢false (sym e)), λ h. absurd h)

root_right_lem : (a : ℤ) (x : Record) → root_right a x ≡ true ↔ RightRoot a x
root_right_lem a x = (
  λ p. let q = both_true (eqb x.level 1) (holds_bound (own_label x) a) p in
      record { first_level = eqb-true x.level 1 q.0; bound = (holds_bound_lem (own_label x) a).0 q.1 },
  λ r. true_both (eq-eqb x.level 1 r.first_level) ((holds_bound_lem (own_label x) a).1 r.bound),
)

-- A RECORD BY ITS NUMBER
module _ (ls : List Level) (a : ℤ) (xs : List Record) (es : List ℕ) where
  root_at : (n : ℕ) (x : Record) → cond (eqb n 0) (root_right a x) true ≡ true ↔ (n ≡ 0 → RightRoot a x)
  root_at zero x = (λ p e. (root_right_lem a x).0 p, λ r. (root_right_lem a x).1 (r refl))
  root_at (suc n) x = (λ p e. absurd (omega arith), λ r. rw (ne_eqb (suc n) 0 (λ q. omega arith)) refl)

  place_at : (n : ℕ) (x : Record) → place_right a n x ≡ true ↔ ((n < most_nodes) × (n ≡ 0 → RightRoot a x))
  place_at n x = (
    λ p. let q = both_true (ltb n most_nodes) (cond (eqb n 0) (root_right a x) true) p in (ltb-true n most_nodes q.0, (root_at n x).0 q.1),
    λ r. true_both (lt-ltb n most_nodes r.0) ((root_at n x).1 r.1),
  )

  pub right_at_lem : (n : ℕ) → right_at ls a xs es n (get_or xs n no_record) ≡ true ↔ RightAt ls a xs es n
  unfolding right_at
  right_at_lem n = (
    λ p. let q = both_true (place_right a n (get_or xs n no_record)) (record_right ls xs es (get_or xs n no_record)) p in
        let r = (place_at n (get_or xs n no_record)).0 q.0 in
        record { few = r.0; root = r.1; alone = (record_right_lem ls xs es (get_or xs n no_record)).0 q.1 },
    λ r. true_both ((place_at n (get_or xs n no_record)).1 (r.few, r.root)) ((record_right_lem ls xs es (get_or xs n no_record)).1 r.alone),
  )

  -- ---- The whole hand-in

  -- WHAT A JUDGEMENT SAYS: passed, that the hand-in is right; refused, by refusal 20 and no other, which is the first bad record
  abbrev pub Tells : Checked → Type 0
  Tells (Ok tt) = RightHandIn ls a xs es
  Tells (Err x) = (n : ℕ) × (x ≡ BadRecord n) × FirstBad ls a xs es n

  -- a record that fails its test is not right
  wrong_at : (n : ℕ) → right_at ls a xs es n (get_or xs n no_record) ≡ false → RightAt ls a xs es n → ⊥
  wrong_at n e r = true≢false (sym ((right_at_lem n).1 r) ∙ e)

  told_says : (c : Checked) → 0 < length xs → Told (right_at ls a xs es) 0 xs c → Tells c
  told_says (Ok tt) h t =
      record { each = λ n k. (right_at_lem n).0 (let e : 0 + n ≡ n = omega arith in rw e at (t n k)); empty = λ e. absurd (omega arith) }
  told_says (Err x) h t =
      let e : 0 + t.0 ≡ t.0 = omega arith in (
        t.0,
        rw e at t.1,
        record {
          before = λ m k. (omega (arith, t.2), (right_at_lem m).0 (let f : 0 + m ≡ m = omega arith in rw f at (t.4 m k)));
          bad = λ k. wrong_at t.0 (rw e at t.3);
          empty = λ k. absurd (omega (arith, t.2));
        },
      )

decided_is : (ls : List Level) (a : ℤ) → decided ls a ≡ true ↔ Decided ls a
decided_is ls (pos z) = (λ e. inr (leb-true (R ls) z e), top)
  where
    top : ⊥ ⊎ (R ls ≤ z) → leb (R ls) z ≡ true
    top (inl b) = absurd b
    top (inr h) = le-leb (R ls) z h
decided_is ls (negsuc z) = (λ e. inl tt, λ u. refl)

empty_says : (ls : List Level) (a : ℤ) (es : List ℕ) (t : Bool) → decided ls a ≡ t → Tells ls a [] es (unless t (BadRecord 0))
empty_says ls a es true e = record { each = λ n h. absurd (not-suc-le-zero h); empty = λ q. (decided_is ls a).0 e }
empty_says ls a es false e = (
  0,
  refl,
  record {
    before = λ m h. absurd (not-suc-le-zero h);
    bad = λ h. absurd (not-suc-le-zero h);
    empty = λ h. (refl, λ d. true≢false (sym ((decided_is ls a).1 d) ∙ e));
  },
)

pub judged_says : (ls : List Level) (a : ℤ) (xs : List Record) (es : List ℕ) → Tells ls a xs es (judged ls a xs es)
unfolding judged
judged_says ls a [] es = empty_says ls a es (decided ls a) refl
judged_says ls a (x ∷ xs) es =
    told_says ls a (x ∷ xs) es (each_record (right_at ls a (x ∷ xs) es) 0 (x ∷ xs)) (omega arith) (records_told (right_at ls a (x ∷ xs) es) 0 (x ∷ xs))

-- a right hand-in has no bad record, and there is one first bad record only
right_not_bad : (ls : List Level) (a : ℤ) (xs : List Record) (es : List ℕ) (n : ℕ) → RightHandIn ls a xs es → FirstBad ls a xs es n → ⊥
right_not_bad ls a xs es n r b = go (ltb n (length xs)) refl
  where
    go : (t : Bool) → ltb n (length xs) ≡ t → ⊥
    go true e = let h = ltb-true n (length xs) e in b.bad h (r.each n h)
    go false e = let h = ltb-false n (length xs) e in (b.empty h).1 (r.empty (omega (arith, (b.empty h).0)))

not_before : (ls : List Level) (a : ℤ) (xs : List Record) (es : List ℕ) (m n : ℕ) → FirstBad ls a xs es m → FirstBad ls a xs es n → m < n → ⊥
not_before ls a xs es m n p q h = let r = q.before m h in p.bad r.0 r.1

pub one_bad : (ls : List Level) (a : ℤ) (xs : List Record) (es : List ℕ) (m n : ℕ) → FirstBad ls a xs es m → FirstBad ls a xs es n → m ≡ n
one_bad ls a xs es m n p q = omega (arith, not_before ls a xs es m n p q, not_before ls a xs es n m q p)

-- IT PASSES just the right hand-ins
pub passes_right : (ls : List Level) (a : ℤ) (xs : List Record) (es : List ℕ) → judged ls a xs es ≡ passed ↔ RightHandIn ls a xs es
passes_right ls a xs es = (λ e. subst (Tells ls a xs es) e (judged_says ls a xs es), λ r. go (judged ls a xs es) r (judged_says ls a xs es))
  where
    go : (c : Checked) → RightHandIn ls a xs es → Tells ls a xs es c → c ≡ passed
    go (Ok tt) r s = refl
    go (Err x) r s = absurd (right_not_bad ls a xs es s.0 r s.2)

-- IT NAMES the first bad record
pub names_bad : (ls : List Level) (a : ℤ) (xs : List Record) (es : List ℕ) (n : ℕ) → judged ls a xs es ≡ Err (BadRecord n) ↔ FirstBad ls a xs es n
names_bad ls a xs es n = (λ e. said (subst (Tells ls a xs es) e (judged_says ls a xs es)), λ b. go (judged ls a xs es) b (judged_says ls a xs es))
  where
    said : Tells ls a xs es (Err (BadRecord n)) → FirstBad ls a xs es n
    said s = let e : s.0 ≡ n = cc s.1 in rw e at s.2

    go : (c : Checked) → FirstBad ls a xs es n → Tells ls a xs es c → c ≡ Err (BadRecord n)
    go (Ok tt) b s = absurd (right_not_bad ls a xs es n s b)
    go (Err x) b s = let e = one_bad ls a xs es s.0 n s.2 b in cc s.1

-- A BOUND BELOW 0 is held by no label: the hand-in without records is right, and in any other record 0 is bad
pub below_zero : (ls : List Level) (z : ℕ) (xs : List Record) (es : List ℕ) → judged ls (negsuc z) xs es ≡ unless (eqb (length xs) 0) (BadRecord 0)
unfolding judged each_record right_at
below_zero ls z [] es = refl
below_zero ls z (x ∷ xs) es = rw (ne_eqb (length (x ∷ xs)) 0 (λ q. omega arith), and-false (eqb x.level 1)) refl
