-- THE ROW OF A RECORD whose edges lie in the edge list: a word for each value, that of value j at place j behind the first. Assumes nothing.
use mathlib.Core.Path.{◌≡◌, ◌∙◌}
use mathlib.Core.List.{List}
use Prim.Native.Nat.{ℕ, suc, ◌+◌, ◌≤◌}
use native.Mathlib.Omega.{arith}
use lib.ListN.{length, get_or, drop, length-drop}
use lib.Seq.{length-take-le, get_or-take, get_or-drop}
use Rattle.word.specs.Record.{Record}
use Rattle.diagram.specs.Level.{Level}
use Rattle.marking.specs.HandIn.{own_level}
use Rattle.marking.specs.Judged.{own_row}

module _ (ls : List Level) (es : List ℕ) (x : Record) where
  pub row_full : x.first + suc (own_level ls x).dom ≤ length es → length (own_row ls es x) ≡ suc (own_level ls x).dom
  row_full h = length-take-le (suc (own_level ls x).dom) (drop x.first es) (omega (arith, length-drop x.first es))

  pub row_word : (j : ℕ) → j ≤ (own_level ls x).dom → get_or (own_row ls es x) j 0 ≡ get_or es (x.first + j) 0
  row_word j h = get_or-take (suc (own_level ls x).dom) (drop x.first es) j 0 (omega arith) ∙ get_or-drop x.first es j 0
