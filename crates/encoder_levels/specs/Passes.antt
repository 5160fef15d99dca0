-- What the passes of a call promise each other. Assumes nothing.
use Rattle.filler.specs.declared.Counts.{Counts}
use Rattle.std.specs.Prelude.{◌≡◌, List, ℕ, ◌≤◌, ◌<◌, ℤ, length, replicate, Option, Some, None, Result, Ok, Err}
use Rattle.word.specs.Padded.{padded}
use Rattle.word.specs.Edge.{edge_of}
use Rattle.refusal.specs.declared.Refusal.{Refusal}
use Rattle.diagram.specs.Flat.{table_words, edge_words}
use Rattle.diagram.specs.Constraint.{Constraint}
use Rattle.encoding.specs.Boolean.{orders}
use Rattle.limits.specs.declared.Limits.{Limits}
use Rattle.limits.specs.Limits.{node_limit}
use Rattle.constraint.specs.Lent.{levels_of}
use Rattle.encoder_levels.specs.Reply.{capacity, counts_within}
use Rattle.encoder_levels.specs.declared.Top.{Top}
use Rattle.filler.specs.Filled.{nodes_for, clauses_for, constraint_of, Tabled}

-- All three lists are zeroed, and the reply is the refusal.
pub record Cleared (x : Refusal) (t e w t' e' w' : List ℕ) (r : Result Counts Refusal) : Type 0 where
  pub reply : r ≡ Err x
  pub table : t' ≡ replicate (length t) 0
  pub edges : e' ≡ replicate (length e) 0
  pub clauses : w' ≡ replicate (length w) 0

-- What is drawn of the slices' constraint with a bound: its table does not find room, or it stands in the lent table, within the limit.
abbrev pub DrawnFor : Limits → List ℕ → List ℕ → ℤ → List ℕ → List ℕ → Option Top → Type 0
DrawnFor l cs ds a t t' None = capacity l (length t) < length (nodes_for (constraint_of cs ds a))
DrawnFor l cs ds a t t' (Some x) = (x.nodes ≤ node_limit l) × Tabled (constraint_of cs ds a) (orders (levels_of cs ds)) (edge_of x.root) t' x.nodes

-- What is left in a list of n words once the words have passed the check.
abbrev pub left_in : Result Counts Refusal → ℕ → List ℕ → List ℕ
left_in (Ok c) n result = padded n result
left_in (Err x) n result = replicate n 0

-- The reply and the lists for a constraint, under the limits of a call.
pub record Answered (l : Limits) (c : Constraint) (t e w t' e' w' : List ℕ) (r : Result Counts Refusal) : Type 0 where
  pub reply : r ≡ counts_within l c (length t) (length e) (length w)
  pub table : t' ≡ left_in r (length t) (table_words (nodes_for c))
  pub edges : e' ≡ left_in r (length e) (edge_words (nodes_for c))
  pub clauses : w' ≡ left_in r (length w) (clauses_for c)
