-- A BOUND as the record holds it. Assumes nothing.
use Rattle.std.specs.Prelude.{ℤ, pos, negsuc}
use Rattle.constraint_bound.specs.declared.Bound.{Bound}
use Rattle.constraint_bound.specs.declared.Bound.TheVariants.{Negative, Natural}

-- Its value, or that it is below 0.
abbrev pub bound_of : ℤ → Bound
bound_of (pos z) = Natural z
bound_of (negsuc z) = Negative
