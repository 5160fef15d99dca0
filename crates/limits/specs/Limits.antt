-- THE LIMITS OF A CALL, after request Nine of document 02: the main ones, and what a caller's count as. Assumes nothing.
use Rattle.std.specs.Prelude.{ℕ, ◌≤◌, min}
use Rattle.word.specs.Record.{most_nodes}
use Rattle.diagram.specs.Constraint.{most_terms}
use Rattle.limits.specs.declared.Limits.{Limits}

-- THE MAIN LIMITS, 64 terms and 65,536 nodes.
abbrev pub main_limits : Limits
main_limits = record { terms = most_terms; nodes = most_nodes }

-- A limit above the main one counts as the main one.
abbrev pub term_limit : Limits → ℕ
term_limit l = min l.terms most_terms

abbrev pub node_limit : Limits → ℕ
node_limit l = min l.nodes most_nodes

-- Limits that allow no more than others.
abbrev pub Narrower : Limits → Limits → Type 0
Narrower l m = (term_limit l ≤ term_limit m) × (node_limit l ≤ node_limit m)
