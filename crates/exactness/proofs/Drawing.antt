-- EXACTNESS of unit propagation, over the clauses of any right drawing: a completion closes what is settled, and bytes that are closed have the lowest values
-- and, for each open order Boolean, the raised ones as completions. Assumes nothing.
use mathlib.Core.Path.{◌≡◌, refl, sym, ap, ◌∙◌}
use mathlib.Core.List.{List}
use mathlib.Core.Bool.{Bool, true, false, true≢false}
use Prim.Native.Nat.{ℕ, zero, suc, ◌+◌, ◌≤◌}
use native.Mathlib.Omega.{arith}
use lib.Dec.{eqb, leb}
use lib.IntN.{ℤ}
use lib.ListN.{length}
use borrow.Author.Tests.{eqb-true, eqb-false, leb-true, leb-false}
use Rattle.word.specs.Edge.{Edge}
use Rattle.diagram.specs.Level.{Level, AllAscend}
use Rattle.diagram.specs.Table.{Node}
use Rattle.diagram.specs.Right.{Right}
use Rattle.clause.specs.Meaning.{Literal, Values, AllTrue}
use Rattle.encoding.specs.Boolean.{orders, orders_before}
use Rattle.encoding.specs.Pattern.{pattern}
use Rattle.encoding.specs.Claim.{Solves, Extends}
use Rattle.encoding.proofs.Rule.{OrderPlace, order_place}
use Rattle.encoding.proofs.Admits.{drawing_admits}
use Rattle.propagation.specs.Derived.{byte_of, byte, TrueIn, opposite, Derived, Conflicting, Bytes, KnownIn}
use Rattle.propagation.specs.Propagated.{Outcome, conflict, reached, propagated}
use Rattle.propagation.proofs.Models.{TrueUpTo, models_closed, models_no_conflict}
use Rattle.propagation.proofs.Laws.{settled_least, conflict_is, settled_is, reached_keeps, reached_closed}
use Rattle.exactness.specs.Exact.{Completion, AuxiliaryOpen, IsSettled, Agree, Exact}
use Rattle.exactness.proofs.Closed.{ClosedDrawing, closed_drawing}
use Rattle.exactness.proofs.Lowest.{lowest, low_true, low_keeps, lowest_rule, lowest_solves}
use Rattle.exactness.proofs.Raised.{raised_values, raised_rule, raised_solves, raised_keeps, raised_here}

-- no truth value is open
never : (x : Bool) → 2 ≡ byte x → ⊥
never true e = omega arith
never false e = omega arith

module _ (ls : List Level) (a : ℤ) (ns : List Node) (top : Edge) (g : AllAscend ls) (r : Right ls a ns top) (bs : List ℕ)
    (known : KnownIn (length bs) (pattern ls top ns)) (within : KnownIn (orders ls + 2 + length ns) (pattern ls top ns)) (legal : Bytes bs)
    (aux : AuxiliaryOpen (orders ls) (length ns) bs) where
  abbrev last : ℕ
  last = orders ls + 2 + length ns

  abbrev Completes : Values → Type 0
  Completes v = Completion (Solves ls a) (orders ls) bs v

  -- ---- A completion, with values for the other Booleans

  record Model (v : Values) : Type 0 where
    full : Values
    same : (b : ℕ) → 1 ≤ b → b ≤ orders ls → full b ≡ v b
    all : AllTrue full (pattern ls top ns)
    has : (l : Literal) → TrueIn bs l → TrueUpTo (orders ls + 2 + length ns) full l

  model : (v : Values) → Completes v → Model v
  model v c =
      let t = (drawing_admits ls a ns top g r v).0 c.solution in
      record { full = t.0; same = t.1; all = t.2; has = λ l e h. into t.0 t.1 l.of l.says h e (leb l.of (orders ls)) refl }
    where
      into : (w : Values) → Extends ls v w → (b : ℕ) (x : Bool) → b ≤ last → byte_of bs b ≡ byte x → (y : Bool) → leb b (orders ls) ≡ y → w b ≡ x
      into w o zero x h e y f = absurd (never x e)
      into w o (suc b) x h e true f = o (suc b) (omega arith) (leb-true _ _ f) ∙ c.keeps (suc b) x (omega arith) (leb-true _ _ f) e
      into w o (suc b) x h e false f = absurd (never x (sym (aux (suc b) (leb-false _ _ f) h) ∙ e))

  -- what is settled it makes true, so after a conflict there is none
  model_has : (v : Values) (c : Completes v) (l : Literal) → Derived (pattern ls top ns) bs l → TrueUpTo last (model v c).full l
  model_has v c =
      let m = model v c in
      settled_least (pattern ls top ns) bs (TrueUpTo last m.full) m.has (models_closed last m.full (pattern ls top ns) within m.all)

  none : propagated (pattern ls top ns) bs ≡ conflict → (v : Values) → Completes v → ⊥
  none e v c = go ((conflict_is (pattern ls top ns) bs known legal).0 e)
    where
      go : Conflicting (pattern ls top ns) (Derived (pattern ls top ns) bs) → ⊥
      go (d, m, f) = models_no_conflict last (model v c).full (pattern ls top ns) within (model v c).all (d, m, λ k i. model_has v c (opposite k) (f k i))

  -- ---- The bytes that are reached

  module _ (b : List ℕ) (e : propagated (pattern ls top ns) bs ≡ reached b) where
    drawn : ClosedDrawing (byte_of b) ls top ns
    drawn = closed_drawing (byte_of b) ls top ns (reached_closed (pattern ls top ns) bs known legal b e)

    kept : (k : ℕ) (x : Bool) → byte_of bs k ≡ byte x → byte_of b k ≡ byte x
    kept k x f = reached_keeps (pattern ls top ns) bs known legal b e (record { of = k; says = x }) f

    low : Completes (lowest (byte_of b))
    low =
        record {
          solution = record { order = lowest_rule ls a ns top g r (byte_of b) drawn; linear = lowest_solves ls a ns top g r (byte_of b) drawn };
          keeps = λ k x h m f. low_keeps (byte_of b) k x (kept k x f);
        }

    -- what is settled all completions have
    agree : (k : ℕ) → 1 ≤ k → k ≤ orders ls → (x : Bool) → byte_of b k ≡ byte x → (v : Values) → Completes v → v k ≡ x
    agree k h m x f v c =
        let l : Literal = record { of = k; says = x } in
        sym ((model v c).same k h m) ∙ model_has v c l ((settled_is (pattern ls top ns) bs known legal b e l).0 f) (omega (arith, m))

    -- on an open Boolean two completions differ
    differ : (k : ℕ) → 1 ≤ k → k ≤ orders ls → ¬ (byte_of b k ≡ 1) → ¬ (byte_of b k ≡ 0) → Agree (Solves ls a) (orders ls) bs k → ⊥
    differ k h m t f all = go (order_place ls k h m)
      where
        go : OrderPlace ls k → ⊥
        go s =
            let nt : byte_of b (orders_before ls s.lev + s.val) ≡ 1 → ⊥ = λ q. t (ap (byte_of b) s.is ∙ q) in
            let nf : byte_of b (orders_before ls s.lev + s.val) ≡ 0 → ⊥ = λ q. f (ap (byte_of b) s.is ∙ q) in
            let v = raised_values ls a ns top g r (byte_of b) drawn s.lev s.val s.deep s.some s.fits nt nf in
            let c : Completes v =
            record {
              solution = record {
                order = raised_rule ls a ns top g r (byte_of b) drawn s.lev s.val s.deep s.some s.fits nt nf;
                linear = raised_solves ls a ns top g r (byte_of b) drawn s.lev s.val s.deep s.some s.fits nt nf;
              };
              keeps = λ k x h m f. raised_keeps ls a ns top g r (byte_of b) drawn s.lev s.val s.deep s.some s.fits nt nf k x (kept k x f);
            } in
            true≢false (
            sym (low_true (byte_of b) k f)
            ∙ all (lowest (byte_of b)) v low c
            ∙ ap v s.is
            ∙ raised_here ls a ns top g r (byte_of b) drawn s.lev s.val s.deep s.some s.fits nt nf
            )

    settle : (k : ℕ) → 1 ≤ k → k ≤ orders ls → Agree (Solves ls a) (orders ls) bs k → IsSettled b k
    settle k h m all = go (eqb (byte_of b k) 1) (eqb (byte_of b k) 0) refl refl
      where
        go : (x y : Bool) → eqb (byte_of b k) 1 ≡ x → eqb (byte_of b k) 0 ≡ y → (x : Bool) × (byte_of b k ≡ byte x)
        go true y p q = (true, eqb-true (byte_of b k) 1 p)
        go false true p q = (false, eqb-true (byte_of b k) 0 q)
        go false false p q = absurd (differ k h m (eqb-false (byte_of b k) 1 p) (eqb-false (byte_of b k) 0 q) all)

  -- EXACT: the clauses of any right drawing
  pub drawing_exact : Exact (Solves ls a) (orders ls) bs (propagated (pattern ls top ns) bs)
  drawing_exact =
      record {
        conflicts = (none, λ all. go all (propagated (pattern ls top ns) bs) refl);
        completes = λ b e. (lowest (byte_of b), low b e);
        settles = λ b e k h m. (λ p v w c d. agree b e k h m p.0 p.1 v c ∙ sym (agree b e k h m p.0 p.1 w d), settle b e k h m);
        agrees = agree;
      }
    where
      go : ((v : Values) → ¬ Completes v) → (q : Outcome) → propagated (pattern ls top ns) bs ≡ q → q ≡ conflict
      go all conflict e = refl
      go all (reached b) e = absurd (all (lowest (byte_of b)) (low b e))
