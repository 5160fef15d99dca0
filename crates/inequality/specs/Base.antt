-- THE BASE FORM of a constraint as written: a constraint of document 01, whose bound is any whole number. First the relation becomes 'at most', which turns the
-- signs of 'at least' and 'greater' and takes one from the bound of 'less' and 'greater'. Then every value is counted from the end of its domain at which its
-- term is least: from the lower end, or, of a term that is negative by then, down from the upper end. Assumes nothing.
use Rattle.std.specs.Prelude.{Bool, true, false, not, List, [], ◌∷◌, map, ℕ, ℤ, pos, neg_ℤ, ◌+ℤ◌, ◌-ℤ◌, ◌*ℤ◌}
use Rattle.std.proofs.Math.IntN.{pred_ℤ}
use Rattle.diagram.specs.Constraint.{Term, Constraint}
use Rattle.inequality.specs.Written.{Relation, at_most, less_than, at_least, greater_than, SignedTerm, Inequality, upper_end}

-- The bound once the relation is 'at most'.
abbrev pub bound_by : Relation → ℤ → ℤ
bound_by at_most b = b
bound_by less_than b = pred_ℤ b
bound_by at_least b = neg_ℤ b
bound_by greater_than b = pred_ℤ (neg_ℤ b)

-- Whether the relation is turned round, and whether a term is negative then.
abbrev pub turned_by : Relation → Bool
turned_by at_most = false
turned_by less_than = false
turned_by at_least = true
turned_by greater_than = true

abbrev pub sign_if : Bool → Bool → Bool
sign_if true negative = not negative
sign_if false negative = negative

abbrev pub negative_by : Relation → SignedTerm → Bool
negative_by r t = sign_if (turned_by r) t.negative

-- THE VALUE that a choice from 0 to the distance stands for: so much above the lower end, or, of a term that is negative then, below the upper end.
abbrev pub value_if : Bool → SignedTerm → ℕ → ℤ
value_if false t y = t.lower +ℤ pos y
value_if true t y = upper_end t -ℤ pos y

abbrev pub values_by : Relation → List SignedTerm → List ℕ → List ℤ
values_by r [] ys = []
values_by r (t ∷ ts) [] = []
values_by r (t ∷ ts) (y ∷ ys) = value_if (negative_by r t) t y ∷ values_by r ts ys

abbrev pub stands_for : Inequality → List ℕ → List ℤ
stands_for q ys = values_by q.relation q.terms ys

-- What the shift of a term adds to the bound: the magnitude times the lower end is taken off, or, of a term that is negative then, times the upper end added.
abbrev pub shift_if : Bool → SignedTerm → ℤ
shift_if false t = neg_ℤ (pos t.magnitude *ℤ t.lower)
shift_if true t = pos t.magnitude *ℤ upper_end t

abbrev pub shifts : Relation → List SignedTerm → ℤ
shifts r [] = pos 0
shifts r (t ∷ ts) = shift_if (negative_by r t) t +ℤ shifts r ts

abbrev pub base_term : SignedTerm → Term
base_term t = record { coef = t.magnitude; end = t.distance }

-- THE BASE FORM.
abbrev pub base_form : Inequality → Constraint
base_form q = record { bound = bound_by q.relation q.bound +ℤ shifts q.relation q.terms; terms = map base_term q.terms }
