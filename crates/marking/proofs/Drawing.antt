-- HAND-INS AND DRAWINGS: a right hand-in is a right drawing, so that its clauses admit just the solutions; and records with their edges that make a right drawing are
-- a right hand-in where record 0 is the root. Assumes nothing.
use mathlib.Core.Path.{◌≡◌, refl, sym, ap, subst, ◌∙◌}
use mathlib.Core.List.{List, [], ◌∷◌}
use mathlib.Core.Logic.{⊎_elim}
use mathlib.Core.Bool.{Bool, true, false, cond}
use Prim.Native.Nat.{ℕ, suc, ◌+◌, ◌-◌, ◌≤◌, ◌<◌}
use native.Mathlib.Omega.{arith}
use lib.Dec.{ltb, eqb}
use lib.IntN.{ℤ, pos, negsuc}
use lib.ListN.{length, get_or, length-map}
use borrow.Author.Tests.{ltb-true, ltb-false, eqb-true, eq-eqb, ne_eqb}
use Rattle.word.specs.Edge.{Edge, F, T, to, edge_word, edge_in}
use Rattle.word.specs.Record.{Record, no_record, most_nodes}
use Rattle.diagram.specs.Level.{Level, less}
use Rattle.diagram.specs.Label.{Holds}
use Rattle.diagram.specs.Table.{Node}
use Rattle.diagram.specs.Claim.{node_at, level_at, OfLevel, Leads}
use Rattle.diagram.specs.Flat.{node_in}
use Rattle.diagram.specs.Right.{Right}
use Rattle.diagram.specs.Constraint.{Constraint, levels, Within}
use Rattle.diagram.proofs.Places.{map_at}
use Rattle.diagram.proofs.Terms.{levels_ascend}
use Rattle.diagram.proofs.Entering.{Inside, right_inside}
use Rattle.encoding.specs.Pattern.{clause_words}
use Rattle.encoding.specs.Claim.{Admits}
use Rattle.encoding.proofs.Demand.{words_admit, orders_le}
use Rattle.marking.specs.HandIn.{StandsFor, own_label, own_level, drawing_of, LeadsRight, RightRecord, RightRoot, Decided, RightHandIn, root_in}
use Rattle.marking.specs.Judged.{own_row}
use Rattle.marking.proofs.Rows.{row_full, row_word}
use Rattle.marking.proofs.Edges.{node_is}

-- the edge that a word stands for is the one that is read from it
read_edge : (w : ℕ) (e : Edge) → StandsFor w e → edge_in w ≡ e
read_edge w F s = rw (eq-eqb w (edge_word F) s)
read_edge w T s = rw (ne_eqb w (edge_word F) (λ q. omega arith), eq-eqb w (edge_word T) s)
read_edge w (to n) s =
    let e : w ≡ n = omega (arith, s.0, s.1) in
    rw (ne_eqb w (edge_word F) (λ q. omega (arith, s.0)), ne_eqb w (edge_word T) (λ q. omega (arith, s.0))) (ap to e)

-- and a word stands for the edge that is read from it, where this leads to one of few nodes
edge_read : (w m : ℕ) → m ≤ most_nodes → Inside m (edge_in w) → StandsFor w (edge_in w)
edge_read w m few = go (eqb w (edge_word F)) refl (eqb w (edge_word T)) refl
  where
    go : (p : Bool) → eqb w (edge_word F) ≡ p → (q : Bool) → eqb w (edge_word T) ≡ q → Inside m (cond p F (cond q T (to w))) → StandsFor w (cond p F (cond q T (to w)))
    go true e q f i = eqb-true w (edge_word F) e
    go false e true f i = eqb-true w (edge_word T) f
    go false e false f i = (omega arith, omega arith)

-- the children of a record whose edges lie in the edge list
module _ (ls : List Level) (es : List ℕ) (x : Record) (inside : x.first + suc (own_level ls x).dom ≤ length es) where
  row_count : length (node_in ls es x).children ≡ suc (own_level ls x).dom
  row_count = length-map (own_row ls es x) edge_in ∙ row_full ls es x inside

  child_word : (j : ℕ) → j ≤ (own_level ls x).dom → get_or (node_in ls es x).children j F ≡ edge_in (get_or es (x.first + j) 0)
  child_word j h = map_at edge_in (own_row ls es x) j F 0 (omega (arith, row_full ls es x inside)) ∙ ap edge_in (row_word ls es x j h)

-- ---- A right hand-in is a right drawing

module _ (ls : List Level) (a : ℤ) (xs : List Record) (es : List ℕ) (r : RightHandIn ls a xs es) where
  abbrev ns : List Node
  ns = drawing_of ls xs es

  -- the record of a node
  at_record : (n : ℕ) → n < length ns → RightRecord ls xs es (get_or xs n no_record)
  at_record n h = (r.each n (rw length-map at h)).alone

  as_node : (n : ℕ) → n < length ns → node_at ns n ≡ node_in ls es (get_or xs n no_record)
  as_node n h = node_is ls xs es n (rw length-map at h)

  -- the record's level, counted from 0
  level_is : (n i : ℕ) → OfLevel ns i n → (get_or xs n no_record).level ≡ suc i
  level_is n i o = ap (λ (x : Node). x.level) (sym (as_node n o.0)) ∙ o.1

  child : (n i : ℕ) → OfLevel ns i n → (j : ℕ) → j ≤ (level_at ls i).dom → (z : ℤ) → Holds (node_at ns n).lab z
      → Leads ls ns (suc i) (get_or (node_at ns n).children j F) (less z ((level_at ls i).off j))
  child n i o j h z k =
      let x = get_or xs n no_record in
      let q = at_record n o.0 in
      let m : x.level - 1 ≡ i = omega (arith, level_is n i o) in
      let d : j ≤ (own_level ls x).dom = subst (λ (l : ℕ). j ≤ (level_at ls l).dom) (sym m) h in
      let b : Holds (own_label x) z = subst (λ (y : Node). Holds y.lab z) (as_node n o.0) k in
      let c = q.child j d in
      let e : get_or (node_at ns n).children j F ≡ c.edge =
      ap (λ (y : Node). get_or y.children j F) (as_node n o.0) ∙ child_word ls es x q.inside j d ∙ read_edge (get_or es (x.first + j) 0) c.edge c.stands in
      subst (λ (y : Edge). Leads ls ns (suc i) y (less z ((level_at ls i).off j))) (sym e)
      (subst (λ (l : ℕ). Leads ls ns (suc i) c.edge (less z ((level_at ls l).off j))) m
      (subst (λ (l : ℕ). Leads ls ns l c.edge (less z ((level_at ls (x.level - 1)).off j))) (level_is n i o) (c.holds z b)))

  -- A RIGHT HAND-IN IS A RIGHT DRAWING, with any root that leads where the bound belongs
  pub hand_in_right : (top : Edge) → Leads ls ns 0 top a → Right ls a ns top
  hand_in_right top h =
      record {
        levelled = λ n k. let x = at_record n k in ((get_or xs n no_record).level - 1, omega (arith, x.above, x.below), (k, ap (λ (y : Node). y.level) (as_node n k) ∙ omega (arith, x.above)));
        filled = λ n k. rw (as_node n k) (at_record n k).filled;
        rows = λ n i o. rw (as_node n o.0) (row_count ls es (get_or xs n no_record) (at_record n o.0).inside ∙ ap (λ (m : ℕ). suc (level_at ls m).dom) (omega (arith, level_is n i o)));
        child = child;
        rooted = h;
      }

  -- and it has at most 65,536 records
  few_records : length xs ≤ most_nodes
  few_records = go (ltb most_nodes (length xs)) refl
    where
      go : (t : Bool) → ltb most_nodes (length xs) ≡ t → length xs ≤ most_nodes
      go true e = absurd (omega (arith, (r.each most_nodes (ltb-true most_nodes (length xs) e)).few))
      go false e = ltb-false most_nodes (length xs) e

-- its own root leads where the bound belongs
pub root_leads : (ls : List Level) (a : ℤ) (xs : List Record) (es : List ℕ) → RightHandIn ls a xs es → Leads ls (drawing_of ls xs es) 0 (root_in a xs) a
root_leads ls (pos z) [] es r = ⊎_elim (λ b. absurd b) (λ t. t) (r.empty refl)
root_leads ls (negsuc z) [] es r = tt
root_leads ls a (x ∷ xs) es r =
    let q = (r.each 0 (omega arith)).root refl in
    ((omega arith, q.first_level), q.bound)

-- THE CLAUSES of a right hand-in to a constraint within the limits admit just the solutions, with any root that leads where the bound belongs
pub right_admits : (c : Constraint) → Within c → (xs : List Record) (es : List ℕ) → RightHandIn (levels c.terms) c.bound xs es
    → (top : Edge) → Leads (levels c.terms) (drawing_of (levels c.terms) xs es) 0 top c.bound
    → Admits (levels c.terms) c.bound (clause_words (levels c.terms) top (drawing_of (levels c.terms) xs es))
right_admits c w xs es r top h =
    let ls = levels c.terms in
    words_admit ls c.bound (drawing_of ls xs es) top (levels_ascend c.terms) (hand_in_right ls c.bound xs es r top h)
    (omega (arith, w.few, orders_le c.terms w.each, length-map xs (node_in ls es), few_records ls c.bound xs es r))

-- ---- A right drawing is a right hand-in

module _ (ls : List Level) (a : ℤ) (xs : List Record) (es : List ℕ) (top : Edge) (r : Right ls a (drawing_of ls xs es) top) (few : length xs ≤ most_nodes)
    (inside : (n : ℕ) → n < length xs → (get_or xs n no_record).first + suc (own_level ls (get_or xs n no_record)).dom ≤ length es) where
  abbrev drawn : List Node
  drawn = drawing_of ls xs es

  drawn_length : length drawn ≡ length xs
  drawn_length = length-map xs (node_in ls es)

  -- node n of the drawing is record n's
  own : (n : ℕ) → n < length xs → node_at drawn n ≡ node_in ls es (get_or xs n no_record)
  own n h = node_is ls xs es n h

  drawn_child : (n : ℕ) → n < length xs → (j : ℕ) → j ≤ (own_level ls (get_or xs n no_record)).dom → LeadsRight ls xs es (get_or xs n no_record) j
  drawn_child n h j k =
      let x = get_or xs n no_record in
      let w = get_or es (x.first + j) 0 in
      let h₁ : n < length drawn = omega (arith, drawn_length) in
      let l = r.levelled n h₁ in
      let i = l.0 in
      let up : x.level ≡ suc i = ap (λ (y : Node). y.level) (sym (own n h)) ∙ l.2.1 in
      let m : x.level - 1 ≡ i = omega (arith, up) in
      let e : get_or (node_at drawn n).children j F ≡ edge_in w = ap (λ (y : Node). get_or y.children j F) (own n h) ∙ child_word ls es x (inside n h) j k in
      let d : j ≤ (level_at ls i).dom = subst (λ (q : ℕ). j ≤ (level_at ls q).dom) m k in
      let c : j < length (node_at drawn n).children = omega (arith, r.rows n i l.2) in
      record {
        edge = edge_in w;
        stands = edge_read w (length drawn) (omega (arith, drawn_length)) (subst (Inside (length drawn)) e (right_inside ls a drawn top r n h₁ j c));
        holds = λ z b. subst (λ (q : ℕ). Leads ls drawn q (edge_in w) (less z ((level_at ls (x.level - 1)).off j))) (sym up)
            (subst (λ (q : ℕ). Leads ls drawn (suc i) (edge_in w) (less z ((level_at ls q).off j))) (sym m)
            (subst (λ (y : Edge). Leads ls drawn (suc i) y (less z ((level_at ls i).off j))) e
            (r.child n i l.2 j d z (subst (λ (y : Node). Holds y.lab z) (sym (own n h)) b))));
      }

  drawn_record : (n : ℕ) → n < length xs → RightRecord ls xs es (get_or xs n no_record)
  drawn_record n h =
      let h₁ : n < length drawn = omega (arith, drawn_length) in
      let l = r.levelled n h₁ in
      let up : (get_or xs n no_record).level ≡ suc l.0 = ap (λ (y : Node). y.level) (sym (own n h)) ∙ l.2.1 in
      record {
        above = omega (arith, up);
        below = omega (arith, up, l.1);
        filled = subst (λ (y : Node). y.lab.lower ≤ y.lab.upper) (own n h) (r.filled n h₁);
        inside = inside n h;
        child = drawn_child n h;
      }

  -- RECORDS THAT MAKE A RIGHT DRAWING are a right hand-in where record 0 is the root, and there is one unless the bound is decided
  pub drawn_right : (0 < length xs → RightRoot a (get_or xs 0 no_record)) → (length xs ≡ 0 → Decided ls a) → RightHandIn ls a xs es
  drawn_right root empty =
      record {
        each = λ n h. record { few = omega arith; root = λ e. rw e (root (omega (arith, e))); alone = drawn_record n h };
        empty = empty;
      }
