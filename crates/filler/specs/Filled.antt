-- A diagram that is built, its counts, and the lists that it fills: what these passes of a call promise. Assumes nothing.
use Rattle.std.specs.Prelude.{◌≡◌, List, map, ℕ, ◌+◌, ◌*◌, ◌-◌, ◌≤◌, ℤ, length}
use Rattle.word.specs.Edge.{Edge}
use Rattle.word.specs.Padded.{padded}
use Rattle.word.specs.Record.{Record, most_nodes, labelled, RecordsFit}
use Rattle.diagram.specs.Level.{Level}
use Rattle.diagram.specs.Table.{Node, table, root}
use Rattle.diagram.specs.Flat.{bare_of, table_words, edge_words, edge_count}
use Rattle.diagram.specs.Constraint.{Constraint, levels}
use Rattle.encoding.specs.Boolean.{orders}
use Rattle.encoding.specs.Pattern.{clause_words, word_count}
use Rattle.constraint.specs.Lent.{terms_of}
use Rattle.linker.specs.Sum.{end_sum}
use Rattle.filler.specs.declared.Counts.{Counts}
use Rattle.filler.specs.declared.LentLists.{LentLists}

-- A constraint's levels, its table, its root, and its clause words.
abbrev pub levels_in : Constraint → List Level
levels_in c = levels c.terms

abbrev pub nodes_for : Constraint → List Node
nodes_for c = table (levels_in c) c.bound

abbrev pub root_for : Constraint → Edge
root_for c = root (levels_in c) c.bound

abbrev pub clauses_for : Constraint → List ℕ
clauses_for c = clause_words (levels_in c) (root_for c) (nodes_for c)

-- The constraint of two slices and a bound.
abbrev pub constraint_of : List ℕ → List ℕ → ℤ → Constraint
constraint_of cs ds a = record { bound = a; terms = terms_of cs ds }

-- The counts of records by the sum of domain ends over them: every node has an edge more than its level's domain end.
abbrev pub counts_by : List ℕ → ℕ → List Record → ℕ → Counts
counts_by ds D xs count =
    record { nodes = count; edges = count + end_sum ds xs; words = 3 * (D - length ds) + 6 + 3 * count + 4 * end_sum ds xs }

-- The table is built: its first `count` records are the constraint's nodes, and D and the root are the constraint's.
pub record Tabled (c : Constraint) (D : ℕ) (top : Edge) (t : List ℕ) (count : ℕ) : Type 0 where
  pub booleans : D ≡ orders (levels_in c)
  pub root : top ≡ root_for c
  pub few : count ≤ most_nodes
  pub room : RecordsFit count t
  pub counted : count ≡ length (nodes_for c)
  pub records : labelled t count ≡ map bare_of (nodes_for c)

-- The counts are the constraint's, and the edge list and the clause buffer have room.
pub record Roomy (c : Constraint) (n : Counts) (e w : List ℕ) : Type 0 where
  pub nodes : n.nodes ≡ length (nodes_for c)
  pub edges : n.edges ≡ edge_count (levels_in c) (nodes_for c)
  pub words : n.words ≡ word_count (levels_in c) (nodes_for c)
  pub wide : edge_count (levels_in c) (nodes_for c) ≤ length e
  pub long : word_count (levels_in c) (nodes_for c) ≤ length w

-- The three lists hold the complete result.
pub record Filled (c : Constraint) (t e w t' e' w' : List ℕ) : Type 0 where
  pub table : t' ≡ padded (length t) (table_words (nodes_for c))
  pub edges : e' ≡ padded (length e) (edge_words (nodes_for c))
  pub clauses : w' ≡ padded (length w) (clauses_for c)

-- The lists are in the same memory of the caller as before.
abbrev pub SameReferences : LentLists → LentLists → Type 0
SameReferences a b = (b.table.ghost_name ≡ a.table.ghost_name) × (b.edges.ghost_name ≡ a.edges.ghost_name) × (b.clauses.ghost_name ≡ a.clauses.ghost_name)
