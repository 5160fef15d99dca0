-- CHILDREN BY THE RECORDS: where each child of a record leads, as a search among the records tells, and where its children begin. What the
-- functions of this crate that are not public compute. Assumes nothing.
use Rattle.std.specs.Prelude.{ℕ, zero, suc, ◌+◌, ◌-◌, ◌*◌, List, [], ◌∷◌, ◌++◌, cond, leb, ℤ, pos, negsuc, get_or, Result, Ok, Err}
use Rattle.std.proofs.Math.IntN.{sub_ℕ}
use Rattle.word.specs.Edge.{Edge, F, T, to}
use Rattle.word.specs.Record.{Record}
use Rattle.diagram.specs.Table.{row}
use Rattle.word.specs.declared.NodeNumber.{NodeNumber}
use Rattle.finder.specs.Find.{find_in}
use Rattle.diagram.specs.Flat.{end_at}

-- The edge of a search's reply. In a finished table a search for a child that is not decided finds a record.
abbrev pub edge_found : Result NodeNumber ℕ → Edge
edge_found (Ok k) = to k.0
edge_found (Err gap) = F

-- Where a remainder leads at a level whose R is `top`: to F below 0, to T at R or above, else to the record that is found.
abbrev pub leads_to : List Record → ℕ → ℕ → ℤ → Edge
leads_to xs level top (negsuc z) = F
leads_to xs level top (pos r) = cond (leb top r) T (edge_found (find_in xs level r))

-- The children of a lower end, for the values 0 to `end`, where j takes coef × j; `level` and `top` are those of the level below.
unfoldable pub row_of : List Record → ℕ → ℕ → ℕ → ℕ → ℕ → List Edge
row_of xs level top coef end lower = row (λ j. leads_to xs level top (sub_ℕ lower (coef * j))) end

-- The same at level i, counted from 0, of the slices.
abbrev pub row_at : List ℕ → List ℕ → List ℕ → List Record → ℕ → ℕ → List Edge
row_at cs ds rs xs i lower = row_of xs (i + 2) (get_or rs (i + 1) 0) (get_or cs i 0) (get_or ds i 0) lower

-- The children of each record of a run ys, searched for among the records xs.
unfoldable pub rows_of : List ℕ → List ℕ → List ℕ → List Record → List Record → List Edge
rows_of cs ds rs xs [] = []
rows_of cs ds rs xs (y ∷ ys) = row_at cs ds rs xs (y.level - 1) y.lower ++ rows_of cs ds rs xs ys

-- The first place of record n's children, where each record has a child for each value of its level.
unfoldable pub place_in : List ℕ → List Record → ℕ → ℕ
place_in ds xs zero = 0
place_in ds [] (suc n) = 0
place_in ds (x ∷ xs) (suc n) = end_at ds x.level + 1 + place_in ds xs n
