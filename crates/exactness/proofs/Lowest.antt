-- In closed bytes THE LOWEST VALUES, where just those Booleans are false that are settled false, solve the constraint: no edge on their path is settled false. Assumes nothing.
use mathlib.Core.Path.{◌≡◌, refl, sym, ap, subst, ◌∙◌}
use mathlib.Core.List.{List, [], ◌∷◌}
use mathlib.Core.Bool.{Bool, true, false, not, true≢false}
use Prim.Native.Nat.{ℕ, suc, ◌+◌, ◌≤◌}
use native.Mathlib.Omega.{arith}
use lib.Dec.{eqb}
use lib.IntN.{ℤ}
use lib.ListN.{get_or}
use borrow.Author.Tests.{eqb-true, eq-eqb, ne_eqb}
use Rattle.word.specs.Edge.{Edge, F, edge_boolean}
use Rattle.diagram.specs.Level.{Level, AllAscend, total, AtMost}
use Rattle.diagram.specs.Table.{Node}
use Rattle.diagram.specs.Claim.{node_at, level_at, OfLevel}
use Rattle.diagram.specs.Right.{Right}
use Rattle.clause.specs.Meaning.{Values}
use Rattle.encoding.specs.Boolean.{orders, orders_before, OrderRule, chosen}
use Rattle.encoding.proofs.Path.{node_level, covered}
use Rattle.propagation.specs.Derived.{byte}
use Rattle.exactness.proofs.Closed.{AllKept, EdgeClosed, ClosedDrawing}

-- false just where it is settled so; true just where it is settled so
abbrev pub lowest : (ℕ → ℕ) → Values
lowest p b = not (eqb (p b) 0)

abbrev pub highest : (ℕ → ℕ) → Values
highest p b = eqb (p b) 1

pub low_false : (p : ℕ → ℕ) (b : ℕ) → lowest p b ≡ false → p b ≡ 0
low_false p b e = go (eqb (p b) 0) refl e
  where
    go : (x : Bool) → eqb (p b) 0 ≡ x → not x ≡ false → p b ≡ 0
    go true f e = eqb-true _ _ f
    go false f e = absurd (true≢false e)

pub low_true : (p : ℕ → ℕ) (b : ℕ) → (p b ≡ 0 → ⊥) → lowest p b ≡ true
low_true p b h = ap not (ne_eqb (p b) 0 h)

pub low_is : (p : ℕ → ℕ) (b : ℕ) → p b ≡ 0 → lowest p b ≡ false
low_is p b h = ap not (eq-eqb (p b) 0 h)

pub low_keeps : (p : ℕ → ℕ) (b : ℕ) (x : Bool) → p b ≡ byte x → lowest p b ≡ x
low_keeps p b true e = low_true p b (λ f. omega (arith, e, f))
low_keeps p b false e = low_is p b e

low_rule : (p : ℕ → ℕ) (b : ℕ) (ls : List Level) → AllKept p b ls → OrderRule (lowest p) b ls
low_rule p b [] k = tt
low_rule p b (l ∷ ls) k = (λ j h m e. low_true p (b + suc j) (λ f. true≢false (sym e ∙ low_is p (b + j) ((k.0 j h m).1 f))), low_rule p (b + l.dom) ls k.1)

pub high_rule : (p : ℕ → ℕ) (b : ℕ) (ls : List Level) → AllKept p b ls → OrderRule (highest p) b ls
high_rule p b [] k = tt
high_rule p b (l ∷ ls) k = (λ j h m e. eq-eqb (p (b + suc j)) 1 ((k.0 j h m).0 (eqb-true _ _ e)), high_rule p (b + l.dom) ls k.1)

module _ (ls : List Level) (a : ℤ) (ns : List Node) (top : Edge) (g : AllAscend ls) (r : Right ls a ns top) (p : ℕ → ℕ) (c : ClosedDrawing p ls top ns) where
  -- what the bytes say along a node's edge
  pub edge_closed : (n i j : ℕ) → OfLevel ns i n → j ≤ (level_at ls i).dom
      → EdgeClosed p (orders ls + 3 + n) (orders_before ls i + j) j (edge_boolean (orders ls) (get_or (node_at ns n).children j F))
  edge_closed n i j o k =
      subst (λ (b : ℕ). EdgeClosed p (orders ls + 3 + n) (b + j) j (edge_boolean (orders ls) (get_or (node_at ns n).children j F))) (node_level ls a ns top g r n i o).1
      (c.edges n o.0 j (omega (arith, r.rows n i o)))

  pub lowest_rule : OrderRule (lowest p) 0 ls
  lowest_rule = low_rule p 0 ls c.kept

  -- THE LOWEST VALUES solve: no edge on their path is settled false
  pub lowest_solves : AtMost (total ls (chosen (lowest p) 0 ls)) a
  lowest_solves =
      covered ls a ns top g r (lowest p) lowest_rule (λ i e. p (edge_boolean (orders ls) e) ≡ 0 → ⊥) (λ i q. q c.bottom)
      (λ i n h k q m f z. q ((edge_closed n i (get_or (chosen (lowest p) 0 ls) i 0) k m).up z (λ s. low_false p _ (f s))))
      (λ e. omega (arith, e, c.root))
