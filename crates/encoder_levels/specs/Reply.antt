-- THE REPLY FOR A CONSTRAINT under the limits of a call: refusals 6 to 8 or the counts, and the values of a reply. Assumes nothing.
use Rattle.filler.specs.declared.Counts.{Counts}
use Rattle.std.specs.Prelude.{List, Bool, true, false, ℕ, ◌/◌, min, ltb, length, Result, Ok, Err}
use Rattle.word.specs.Record.{record_words}
use Rattle.refusal.specs.Table.{number_of, place_of}
use Rattle.refusal.specs.declared.Refusal.{Refusal}
use Rattle.refusal.specs.declared.Refusal.TheVariants.{TooManyNodes, TooManyEdges, TooManyWords}
use Rattle.diagram.specs.Table.{Node}
use Rattle.diagram.specs.Flat.{edge_count}
use Rattle.diagram.specs.Constraint.{Constraint}
use Rattle.encoding.specs.Pattern.{word_count}
use Rattle.limits.specs.declared.Limits.{Limits}
use Rattle.limits.specs.Limits.{node_limit}
use Rattle.filler.specs.Filled.{levels_in, nodes_for}

-- THE VALUES OF A REPLY, in document 01's terms: number and place of the refusal, 0 and 0 without one; the counts, zero with one.
pub record EncodedValues : Type 0 where
  pub number : ℕ
  pub place : ℕ
  pub nodes : ℕ
  pub edges : ℕ
  pub words : ℕ

abbrev pub encoded_values : Result Counts Refusal → EncodedValues
encoded_values (Ok n) = record { number = 0; place = 0; nodes = n.nodes; edges = n.edges; words = n.words }
encoded_values (Err x) = record { number = number_of x; place = place_of x; nodes = 0; edges = 0; words = 0 }

-- The node capacity of a table of n words: its full records, up to the caller's limit on nodes.
abbrev pub capacity : Limits → ℕ → ℕ
capacity l n = min (n / record_words) (node_limit l)

abbrev pub refuse_if : Bool → Refusal → Result Counts Refusal → Result Counts Refusal
refuse_if true x next = Err x
refuse_if false x next = next

-- Refusals 6 to 8 in numerical order, by the diagram's own needs, for lent lists of t, e and w words; else the counts.
unfoldable pub counts_within : Limits → Constraint → ℕ → ℕ → ℕ → Result Counts Refusal
counts_within l c t e w =
    let ns : List Node = nodes_for c in
    refuse_if (ltb (capacity l t) (length ns)) TooManyNodes
    (refuse_if (ltb e (edge_count (levels_in c) ns)) TooManyEdges
    (refuse_if (ltb w (word_count (levels_in c) ns)) TooManyWords
    (Ok (record { nodes = length ns; edges = edge_count (levels_in c) ns; words = word_count (levels_in c) ns }))))
