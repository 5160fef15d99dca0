-- A RIGHT DRAWING in lent memory is one whose clauses can be written: its edges lead to nodes that there are. Assumes nothing.
use mathlib.Core.Path.{◌≡◌}
use mathlib.Core.List.{List, map}
use Prim.Native.Nat.{ℕ, suc, ◌+◌, ◌≤◌, ◌<◌}
use native.Mathlib.Nat.{le_refl}
use native.Mathlib.Omega.{arith}
use lib.IntN.{ℤ, pos}
use lib.ListN.{length, get_or, take}
use Rattle.word.specs.Word.{last_boolean}
use Rattle.word.specs.Edge.{Edge, F, T, to, edge_boolean}
use Rattle.diagram.specs.Level.{Level, less}
use Rattle.diagram.specs.Table.{Node}
use Rattle.diagram.specs.Claim.{node_at, level_at, Leads}
use Rattle.diagram.specs.Right.{Right}
use Rattle.diagram.specs.Flat.{records_from, edge_words}
use Rattle.encoding.specs.Boolean.{orders}
use Rattle.encoding.proofs.Fits.{own_level_lem, right_filled}
use Rattle.word.specs.Record.{used}
use Rattle.clause_writer.specs.Drawing.{Drawing}

leads_inside : (ls : List Level) (ns : List Node) (D i : ℕ) (e : Edge) (z : ℤ) → Leads ls ns i e z → edge_boolean D e ≤ D + 2 + length ns
leads_inside ls ns D i F z l = omega arith
leads_inside ls ns D i T z l = omega arith
leads_inside ls ns D i (to n) z l = omega (arith, l.0.0)

pub right_drawing : {ls : List Level} {a : ℤ} {ns : List Node} {top : Edge} {ds : List ℕ} {D : ℕ} {t : List ℕ} {count : ℕ} {es : List ℕ}
    → Right ls a ns top → map (λ (l : Level). l.dom) ls ≡ ds → D ≡ orders ls → D + 2 + count ≤ last_boolean
    → used t count ≡ records_from ns 0 0 ns → count ≡ length ns → take (length (edge_words ns)) es ≡ edge_words ns → Drawing ls ns ds D t count es top
right_drawing {ls} {a} {ns} {top} {ds} {D} {t} {count} {es} r ends booleans numbers records counted edges =
    record {
      ends = ends;
      booleans = booleans;
      numbers = numbers;
      records = records;
      counted = counted;
      edges = edges;
      levelled = levelled;
      filled = right_filled ls a ns top r;
      child = child;
      root = leads_inside ls ns D 0 top a r.rooted;
    }
  where
    levelled : (n : ℕ) → n < length ns → (1 ≤ (node_at ns n).level) × ((node_at ns n).level ≤ length ls)
    levelled n h = let l = r.levelled n h in (omega (arith, l.2.1), omega (arith, l.1, l.2.1))

    child : (n j : ℕ) → n < length ns → j < length (node_at ns n).children → edge_boolean D (get_or (node_at ns n).children j F) ≤ D + 2 + length ns
    child n j h k =
        let l = own_level_lem ls a ns top r n h in
        let z : ℤ = pos (node_at ns n).lab.lower in
        leads_inside ls ns D (suc l.0) (get_or (node_at ns n).children j F) (less z ((level_at ls l.0).off j))
        (r.child n l.0 l.2 j (omega (arith, r.rows n l.0 l.2)) z (le_refl _, r.filled n h))
