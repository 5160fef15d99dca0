-- A RIGHT DRAWING WITH FEW NODES is plain: every node has a child for each value, and no node's number is the word of T or F. Assumes nothing.
use mathlib.Core.List.{List}
use Prim.Native.Nat.{ℕ, ◌≤◌, ◌<◌}
use native.Mathlib.Omega.{arith}
use lib.IntN.{ℤ}
use lib.ListN.{length, get_or}
use Rattle.word.specs.Edge.{Edge, F, T, to}
use Rattle.word.specs.Record.{most_nodes}
use Rattle.diagram.specs.Level.{Level}
use Rattle.diagram.specs.Table.{Node}
use Rattle.diagram.specs.Claim.{node_at}
use Rattle.diagram.specs.Right.{Right}
use Rattle.diagram.specs.Flat.{Small}
use Rattle.diagram.proofs.Entering.{Inside, right_inside}
use Rattle.diagram.proofs.Written.{Plain}
use Rattle.encoding.proofs.Fits.{right_filled}

pub right_plain : (ls : List Level) (a : ℤ) (ns : List Node) (top : Edge) → Right ls a ns top → length ns ≤ most_nodes
    → (m : ℕ) → m < length ns → Plain ls (node_at ns m)
right_plain ls a ns top r few m h =
    record {
      row = right_filled ls a ns top r m h;
      numbers = λ j k. small (get_or (node_at ns m).children j F) (right_inside ls a ns top r m h j k);
    }
  where
    small : (e : Edge) → Inside (length ns) e → Small e
    small F i = tt
    small T i = tt
    small (to n) i = omega arith
