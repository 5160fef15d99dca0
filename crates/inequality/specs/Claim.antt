-- DEMAND 2 OF THE CONSTRAINT AS WRITTEN, over any list of clause words: the auxiliary Booleans can complete just those values of the order Booleans that keep the
-- order rule and whose values, as the student counts them, satisfy what was written. Assumes nothing.
use Rattle.std.specs.Prelude.{◌↔◌, List, ℕ}
use Rattle.clause.specs.Meaning.{Values, AllTrue, clauses_of}
use Rattle.diagram.specs.Level.{Level}
use Rattle.diagram.specs.Constraint.{levels}
use Rattle.encoding.specs.Boolean.{OrderRule, chosen}
use Rattle.encoding.specs.Claim.{Extends}
use Rattle.inequality.specs.Written.{Inequality, Satisfies}
use Rattle.inequality.specs.Base.{base_form, stands_for}

-- The levels of the base form: the order Booleans are theirs.
abbrev pub base_levels : Inequality → List Level
base_levels q = levels (base_form q).terms

-- Values v of the order Booleans solve the constraint as written.
pub record SolvesWritten (q : Inequality) (v : Values) : Type 0 where
  pub order : OrderRule v 0 (base_levels q)
  pub written : Satisfies q (stands_for q (chosen v 0 (base_levels q)))

-- THE CLAIM: the words admit just the solutions of the constraint as written.
abbrev pub AdmitsWritten : Inequality → List ℕ → Type 0
AdmitsWritten q ws = (v : Values) → SolvesWritten q v ↔ ((w : Values) × Extends (base_levels q) v w × AllTrue w (clauses_of ws))
