-- A DRAWING IN LENT MEMORY, for what our own functions promise each other. Assumes nothing.
use Rattle.refusal.specs.declared.Refusal.{Refusal}
use Rattle.filler.specs.declared.Counts.{Counts}
use Rattle.std.specs.Prelude.{◌≡◌, List, map, ℕ, ◌≤◌, ◌<◌, length, get_or, take, Result}
use Rattle.word.specs.Edge.{F, edge_in}
use Rattle.diagram.specs.Table.{Node}
use Rattle.diagram.specs.Claim.{node_at}
use Rattle.diagram.specs.Flat.{records_from, edge_words, Small}
use Rattle.word.specs.Record.{Record, used, RecordsFit}
use Rattle.encoder.specs.Promise.{WhenAccepted}

-- The node that a record and the words of its edges hold.
abbrev pub held_node : Record → List ℕ → Node
held_node x ws = record { level = x.level; lab = record { lower = x.lower; upper = x.upper }; children = map edge_in ws }

-- The first `count` records of the table t and the first `total` words of the edge list are those of the nodes.
pub record Lying (ns : List Node) (t : List ℕ) (count : ℕ) (es : List ℕ) (total : ℕ) : Type 0 where
  pub counted : count ≡ length ns
  pub room : RecordsFit count t
  pub records : used t count ≡ records_from ns 0 0 ns
  pub wide : total ≤ length es
  pub edges : take total es ≡ edge_words ns
  pub plain : (n j : ℕ) → n < length ns → j < length (node_at ns n).children → Small (get_or (node_at ns n).children j F)

-- So are those of a reply that has accepted, and the first words of the clause list are cs.
abbrev pub LyingFor : Result Counts Refusal → List Node → List ℕ → List ℕ → List ℕ → List ℕ → Type 0
LyingFor r ns cs t es w = WhenAccepted r (λ n. Lying ns t n.nodes es n.edges × (n.words ≤ length w) × (take n.words w ≡ cs))
