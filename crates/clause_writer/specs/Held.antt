-- WHAT LENT MEMORY HOLDS, whatever stands in it: edges and nodes read back from words. Only the contracts of private functions speak of it.
-- Assumes nothing.
use Rattle.std.specs.Prelude.{◌≡◌, List, map, ℕ, suc, ◌+◌, ◌≤◌, ◌<◌, length, get_or, take, drop}
use Rattle.clause_buffer.specs.Ended.{ended}
use Rattle.word.specs.Word.{last_boolean}
use Rattle.word.specs.Edge.{edge_boolean, edge_in}
use Rattle.word.specs.Record.{Record, used, RecordsFit, record_at}
use Rattle.diagram.specs.Table.{Node}
use Rattle.diagram.specs.Flat.{end_at}
use Rattle.encoding.specs.Boolean.{orders}

-- The words of a node's children.
abbrev pub child_words : List ℕ → List ℕ → Record → List ℕ
child_words ds es x = take (suc (end_at ds x.level)) (drop x.first es)

-- The node of a record.
abbrev pub node_from : List ℕ → List ℕ → Record → Node
node_from ds es x =
    record {
      level = x.level;
      lab = record { lower = x.lower; upper = x.upper };
      children = map edge_in (child_words ds es x);
    }

-- The nodes of the first `count` records.
abbrev pub nodes_held : List ℕ → List ℕ → ℕ → List ℕ → List Node
nodes_held ds t count es = map (node_from ds es) (used t count)

-- The Booleans of the edges' ends have numbers that a literal can hold.
abbrev pub Numbered : ℕ → List ℕ → Type 0
Numbered D ws = (j : ℕ) → j < length ws → edge_boolean D (edge_in (get_or ws j 0)) ≤ last_boolean

-- What is asked of a record.
pub record Sound (ds : List ℕ) (D : ℕ) (es : List ℕ) (x : Record) : Type 0 where
  pub above : 1 ≤ x.level
  pub below : x.level ≤ length ds
  pub inside : x.first + suc (end_at ds x.level) ≤ length es
  pub numbered : Numbered D (child_words ds es x)

-- What is asked of the first `count` records.
pub record Held (ds : List ℕ) (D : ℕ) (t : List ℕ) (count : ℕ) (es : List ℕ) : Type 0 where
  pub booleans : D ≡ orders (ended ds)
  pub numbers : D + 2 + count ≤ last_boolean
  pub long : RecordsFit count t
  pub each : (k : ℕ) → k < count
      → Sound ds D es (record_at t k)
