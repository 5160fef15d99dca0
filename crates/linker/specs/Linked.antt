-- WHAT LINKING NEEDS AND GIVES: from the labels of a finished table, the node table and the edge list of document 01.
-- Assumes nothing.
use Rattle.std.specs.Prelude.{◌≡◌, List, map, ℕ, ◌*◌, ◌≤◌, ℤ, length, take, drop}
use Rattle.word.specs.Record.{most_nodes, used, labelled, record_words, RecordsFit}
use Rattle.diagram.specs.Table.{Node, table}
use Rattle.diagram.specs.Flat.{bare_of, records_from, edge_words, edge_count}
use Rattle.constraint.specs.Lent.{levels_of}

-- The nodes of the constraint of two slices with the bound a.
abbrev pub sliced_nodes : List ℕ → List ℕ → ℤ → List Node
sliced_nodes cs ds a = table (levels_of cs ds) a

-- The first `count` labels are those of the table's nodes, in order, and the edges have room.
pub record Finished (cs ds : List ℕ) (a : ℤ) (t : List ℕ) (count : ℕ) (es : List ℕ) : Type 0 where
  pub few : count ≤ most_nodes
  pub room : RecordsFit count t
  pub records : labelled t count ≡ map bare_of (sliced_nodes cs ds a)
  pub wide : edge_count (levels_of cs ds) (sliced_nodes cs ds a) ≤ length es

-- The table t and the edges es have become t' and es': the records have their places and counts, and the edge list stands at the front of the edges. Behind the records
-- and behind the edge list all words are as they were, and both lists are as long as before, so each word of them is told.
pub record Linked (cs ds : List ℕ) (a : ℤ) (t : List ℕ) (count : ℕ) (es t' es' : List ℕ) : Type 0 where
  pub records : used t' count ≡ records_from (sliced_nodes cs ds a) 0 0 (sliced_nodes cs ds a)
  pub edges : take (edge_count (levels_of cs ds) (sliced_nodes cs ds a)) es' ≡ edge_words (sliced_nodes cs ds a)
  pub table_rest : drop (count * record_words) t' ≡ drop (count * record_words) t
  pub edges_rest : drop (edge_count (levels_of cs ds) (sliced_nodes cs ds a)) es' ≡ drop (edge_count (levels_of cs ds) (sliced_nodes cs ds a)) es
  pub table_kept : length t' ≡ length t
  pub edges_kept : length es' ≡ length es
