-- THE CONSTRAINT AS THE STUDENT WROTE IT, after document 02's request Five: a relation, a bound, and terms with a sign, a lower end and the distance from there
-- to the upper end; and when values satisfy it. All over whole numbers. Assumes nothing.
use Rattle.std.specs.Prelude.{Bool, true, false, List, [], ◌∷◌, ℕ, ◌≤◌, ℤ, pos, negsuc, neg_ℤ, ◌+ℤ◌, ◌*ℤ◌}
use Rattle.std.proofs.Math.IntN.{suc_ℤ}

-- Document 02's RELATION of the sum to the bound.
pub data Relation : Type 0 where
  at_most : Relation
  less_than : Relation
  at_least : Relation
  greater_than : Relation

-- A TERM of document 02: its coefficient is the magnitude with its sign, and its value runs from the lower end over so many steps as the distance says.
pub record SignedTerm : Type 0 where
  pub negative : Bool
  pub magnitude : ℕ
  pub lower : ℤ
  pub distance : ℕ

pub record Inequality : Type 0 where
  pub relation : Relation
  pub bound : ℤ
  pub terms : List SignedTerm

-- Document 02's LIMIT on lower ends: so far from 0, and no farther.
abbrev pub farthest_lower : ℕ
farthest_lower = 1000000

-- A whole number is no more than another one, and it is less.
abbrev pub NoMore : ℤ → ℤ → Type 0
NoMore (pos a) (pos b) = a ≤ b
NoMore (pos a) (negsuc b) = ⊥
NoMore (negsuc a) (pos b) = Unit {0}
NoMore (negsuc a) (negsuc b) = b ≤ a

abbrev pub Less : ℤ → ℤ → Type 0
Less x y = NoMore (suc_ℤ x) y

-- The upper end of a term, and a value in its domain, from the lower to the upper end.
abbrev pub upper_end : SignedTerm → ℤ
upper_end t = t.lower +ℤ pos t.distance

abbrev pub InDomain : SignedTerm → ℤ → Type 0
InDomain t x = NoMore t.lower x × NoMore x (upper_end t)

-- One value from the domain of each term.
abbrev pub InDomains : List SignedTerm → List ℤ → Type 0
InDomains [] [] = Unit {0}
InDomains [] (x ∷ xs) = ⊥
InDomains (t ∷ ts) [] = ⊥
InDomains (t ∷ ts) (x ∷ xs) = InDomain t x × InDomains ts xs

-- What a value adds to the sum, and the sum.
abbrev pub signed : Bool → ℤ → ℤ
signed true z = neg_ℤ z
signed false z = z

abbrev pub adds : SignedTerm → ℤ → ℤ
adds t x = signed t.negative (pos t.magnitude *ℤ x)

abbrev pub sum_of : List SignedTerm → List ℤ → ℤ
sum_of [] xs = pos 0
sum_of (t ∷ ts) [] = pos 0
sum_of (t ∷ ts) (x ∷ xs) = adds t x +ℤ sum_of ts xs

-- A sum stands in the relation to the bound.
abbrev pub Related : Relation → ℤ → ℤ → Type 0
Related at_most s b = NoMore s b
Related less_than s b = Less s b
Related at_least s b = NoMore b s
Related greater_than s b = Less b s

-- VALUES SATISFY what the student wrote.
pub record Satisfies (q : Inequality) (xs : List ℤ) : Type 0 where
  pub inside : InDomains q.terms xs
  pub related : Related q.relation (sum_of q.terms xs) q.bound
