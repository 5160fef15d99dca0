-- A RECORD WHILE IT IS MADE, for the functions that make it: no level is in, and one more is in. Assumes nothing.
use Rattle.std.specs.Prelude.{ℕ, suc, ◌+◌, ◌*◌, replicate, get_or, slice_set}
use Rattle.diagram.specs.Constraint.{most_terms}
use Rattle.constraint_bound.specs.declared.Bound.{Bound}
use Rattle.constraint.specs.declared.Constraint.{Constraint as Held}

abbrev pub begun : Bound → ℕ → Held
begun b n =
    record {
      bound = b;
      terms = n;
      orders = 0;
      coefficients = replicate most_terms 0;
      ends = replicate most_terms 0;
      rests = replicate (suc most_terms) 0;
    }

-- The level is put in, with its coefficient and its domain end; the sum from it on is what it adds to that from the next level on.
abbrev pub with_level : Held → ℕ → ℕ → ℕ → Held
with_level r level a d =
    record {
      bound = r.bound;
      terms = r.terms;
      orders = r.orders + d;
      coefficients = slice_set r.coefficients level a;
      ends = slice_set r.ends level d;
      rests = slice_set r.rests level (get_or r.rests (level + 1) 0 + a * d);
    }
