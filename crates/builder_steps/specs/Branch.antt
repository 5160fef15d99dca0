-- What a child does to a row's ends. Assumes nothing.
use Rattle.std.specs.Prelude.{Bool, true, false, ℕ, ◌+◌, ◌*◌, ◌-◌, min, max, ltb, leb}
use Rattle.diagram.specs.Label.{Label}
use Rattle.builder_steps.specs.declared.Ends.{Ends}
use Rattle.builder_steps.specs.declared.Branch.{Branch}
use Rattle.builder_steps.specs.declared.Branch.TheVariants.{False, True, On}

abbrev pub ends : ℕ → ℕ → Ends
ends x y = record { lower = x; upper = y }

-- The label of the ends.
abbrev pub ends_label : Ends → Label
ends_label e = record { lower = e.lower; upper = e.upper }

abbrev pub pick : Bool → Branch → Branch → Branch
pick true a b = a
pick false a b = b

-- Child j of remainder r, where a is the coefficient and t the greatest sum below.
abbrev pub branch_of : ℕ → ℕ → ℕ → ℕ → Branch
branch_of a t r j = pick (ltb r (a * j)) (False (a * j - 1)) (pick (leb t (r - a * j)) (True (t + a * j)) (On (record { 0 = r - a * j }) (a * j)))

-- The ends after a child that is F or T.
abbrev pub cut_of : Ends → Branch → Ends
cut_of e (False x) = ends e.lower (min e.upper x)
cut_of e (True x) = ends (max e.lower x) e.upper
cut_of e (On c m) = e

-- The ends after a child with the ends s, moved up by m.
abbrev pub overlap_of : Ends → Ends → ℕ → Ends
overlap_of e s m = ends (max e.lower (s.lower + m)) (min e.upper (s.upper + m))
