-- A DRAWING IN LENT MEMORY: what the passes before have left in the table and the edge list. Assumes nothing.
use Rattle.std.specs.Prelude.{◌≡◌, List, map, ℕ, suc, ◌+◌, ◌-◌, ◌≤◌, ◌<◌, length, get_or, take, drop}
use Rattle.word.specs.Word.{last_boolean}
use Rattle.word.specs.Edge.{Edge, F, edge_boolean}
use Rattle.diagram.specs.Level.{Level}
use Rattle.diagram.specs.Table.{Node}
use Rattle.diagram.specs.Claim.{node_at, level_at}
use Rattle.diagram.specs.Flat.{records_from, edge_words}
use Rattle.encoding.specs.Boolean.{orders}
use Rattle.encoding.specs.Pattern.{clause_words, word_count}
use Rattle.word.specs.Record.{used}

-- The domain ends ds, the number D of order Booleans, the first `count` records of the table t, the edge list es and the root `top` are those of a drawing
-- with the levels ls and the nodes ns, and all its Booleans have numbers that a literal can hold.
pub record Drawing (ls : List Level) (ns : List Node) (ds : List ℕ) (D : ℕ) (t : List ℕ) (count : ℕ) (es : List ℕ) (top : Edge) : Type 0 where
  pub ends : map (λ (l : Level). l.dom) ls ≡ ds
  pub booleans : D ≡ orders ls
  pub numbers : D + 2 + count ≤ last_boolean
  pub records : used t count ≡ records_from ns 0 0 ns
  pub counted : count ≡ length ns
  pub edges : take (length (edge_words ns)) es ≡ edge_words ns
  -- each node is of one of the levels, and has a child for each value; no edge leads past the last node
  pub levelled : (n : ℕ) → n < length ns → (1 ≤ (node_at ns n).level) × ((node_at ns n).level ≤ length ls)
  pub filled : (n : ℕ) → n < length ns → length (node_at ns n).children ≡ suc (level_at ls ((node_at ns n).level - 1)).dom
  pub child : (n j : ℕ) → n < length ns → j < length (node_at ns n).children → edge_boolean D (get_or (node_at ns n).children j F) ≤ D + 2 + length ns
  pub root : edge_boolean D top ≤ D + 2 + length ns

-- They are those of some drawing, and its clauses have no more words than there is room for.
pub record Drawn (ds : List ℕ) (D : ℕ) (t : List ℕ) (count : ℕ) (es : List ℕ) (top : Edge) (room : ℕ) : Type 0 where
  pub ls : List Level
  pub ns : List Node
  pub drawing : Drawing ls ns ds D t count es top
  pub fits : word_count ls ns ≤ room

-- THE CLAUSES WRITTEN: r is the number that the word formula gives, and the first r words of the buffer, which is as long as before, are the clause words.
-- The words behind them are as they were, so each word of the buffer is told.
pub record Listed (ls : List Level) (ns : List Node) (top : Edge) (before after : List ℕ) (r : ℕ) : Type 0 where
  pub words : r ≡ word_count ls ns
  pub front : take r after ≡ clause_words ls top ns
  pub rest : drop r after ≡ drop r before
  pub kept : length after ≡ length before
