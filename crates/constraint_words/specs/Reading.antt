-- READING CONSTRAINT WORDS: what is refused and where, the constraint as written that the words state, and its base form. A list is a bound, a relation where one
-- is given, and then the ITEMS: terms, each with its lower end before it where one is given. Assumes nothing.
use Rattle.std.specs.Prelude.{◌≡◌, ◌<◌, Bool, false, not, cond, ◌&&◌, ◌||◌, List, [], ◌∷◌, ℕ, zero, suc, eqb, leb, ℤ, pos, nat_abs, length, get_or, drop}
use Rattle.word.specs.Word.{kind, payload, less_half, domain_end, coefficient, negated}
use Rattle.refusal.specs.Table.{and_then, unless}
use Rattle.refusal.specs.Table.{Checked}
use Rattle.std.specs.Prelude.{Err}
use Rattle.refusal.specs.Table.{passed}
use Rattle.refusal.specs.declared.Refusal.TheVariants.{NoWords, WrongKind, TermCount, DomainEnd, ZeroCoefficient, WrongRelation, LowerEnd}
use Rattle.diagram.specs.Constraint.{Constraint, last_end}
use Rattle.limits.specs.declared.Limits.{Limits}
use Rattle.limits.specs.Limits.{term_limit}
use Rattle.inequality.specs.Written.{Relation, at_most, less_than, at_least, greater_than, SignedTerm, Inequality, farthest_lower}
use Rattle.inequality.specs.Base.{base_form}

-- A number from 1 to n.
abbrev pub up_to : ℕ → ℕ → Bool
up_to n x = leb 1 x && leb x n

-- A word is a lower end.
abbrev pub is_lower : ℕ → Bool
is_lower w = eqb (kind w) 2

-- Whether a relation is given, which is the second word then; the place of the first item; and the items.
abbrev pub has_relation : List ℕ → Bool
has_relation ws = eqb (kind (get_or ws 1 0)) 3

abbrev pub first_item : List ℕ → ℕ
first_item ws = cond (has_relation ws) 2 1

abbrev pub items : List ℕ → List ℕ
items ws = drop (first_item ws) ws

-- A check of each word in turn, the first of them at a place.
unfoldable pub each_from : (ℕ → ℕ → Checked) → ℕ → List ℕ → Checked
each_from check at [] = passed
each_from check at (w ∷ ws) =
    let more : Checked = each_from check (suc at) ws in
    and_then (check at w) more

-- A function of a place and a word, by what its calls return, is a check.
abbrev pub Replies : (ℕ → ℕ → Checked → Type 0) → (ℕ → ℕ → Checked) → Type 0
Replies returns check = (at w : ℕ) (r : Checked) → at < 18446744073709551616 → w < 4294967296 → returns at w r → r ≡ check at w

-- Whether a word of a kind can stand behind the items before it: a term, or a lower end where no term is due for one.
abbrev pub can_stand : Bool → ℕ → Bool
can_stand due k = eqb k 1 || (eqb k 2 && not due)

-- Refusal 2 of the items from a place on: the first word that cannot stand there, or the end where a term is still due.
unfoldable pub placed_from : Bool → ℕ → List ℕ → Checked
placed_from due at [] = unless (not due) (WrongKind at)
placed_from due at (w ∷ ws) =
    let more : Checked = placed_from (is_lower w) (suc at) ws in
    and_then (unless (can_stand due (kind w)) (WrongKind at)) more

-- Refusal 17 of the relation, where one is given.
abbrev pub relation_checked : List ℕ → Checked
relation_checked ws = unless (not (has_relation ws) || leb (payload (get_or ws 1 0)) 3) (WrongRelation 1)

-- Refusal 18 of an item, by its place: a lower end is not too far from 0.
abbrev pub lower_checked : ℕ → ℕ → Checked
lower_checked at w = unless (not (is_lower w) || leb (nat_abs (less_half w)) farthest_lower) (LowerEnd at)

-- Refusal 3: the number of terms, by the caller's limit; its place is the number of words.
abbrev pub count_checked : Limits → ℕ → ℕ → Checked
count_checked l words n = unless (up_to (term_limit l) n) (TermCount words)

-- Refusals 4 and 5 of an item, by its place: of a term first the domain end, then the coefficient.
abbrev pub term_checked : ℕ → ℕ → Checked
term_checked at w =
    cond (is_lower w) passed
    (and_then (unless (up_to last_end (domain_end w)) (DomainEnd at)) (unless (leb 1 (coefficient w)) (ZeroCoefficient at)))

-- The term of a word with a lower end, and the terms of the items; the first has the lower end l if none is given.
abbrev pub term_of : ℤ → ℕ → SignedTerm
term_of l w = record { negative = negated w; magnitude = coefficient w; lower = l; distance = domain_end w }

unfoldable pub terms_from : ℤ → List ℕ → List SignedTerm
terms_from l [] = []
terms_from l (w ∷ ws) =
    let behind : List SignedTerm = terms_from (less_half w) ws in
    let term : List SignedTerm = term_of l w ∷ terms_from (pos 0) ws in
    cond (is_lower w) behind term

abbrev pub terms_in : List ℕ → List SignedTerm
terms_in ws = terms_from (pos 0) (items ws)

-- THE CHECK of constraint words under the limits of a call: 1, then 2 over the whole list, then 17, then 18 (the relation stands before all lower ends, so the earlier word comes first),
-- then 3, then 4 and 5 term by term.
abbrev pub items_checked : Limits → List ℕ → Checked
items_checked l ws =
    and_then (relation_checked ws)
    (and_then (each_from lower_checked (first_item ws) (items ws))
    (and_then (count_checked l (length ws) (length (terms_in ws))) (each_from term_checked (first_item ws) (items ws))))

unfoldable pub checked : Limits → List ℕ → Checked
checked l [] = Err NoWords
checked l (w ∷ ws) =
    and_then (unless (eqb (kind w) 0) (WrongKind 0))
    (and_then (placed_from false (first_item (w ∷ ws)) (items (w ∷ ws))) (items_checked l (w ∷ ws)))

-- The relation of a number, of which none above 3 passes; it is at most where none is given. And the bound.
abbrev pub relation_of : ℕ → Relation
relation_of zero = at_most
relation_of (suc zero) = less_than
relation_of (suc (suc zero)) = at_least
relation_of (suc (suc (suc n))) = greater_than

abbrev pub relation_in : List ℕ → Relation
relation_in ws = relation_of (cond (has_relation ws) (payload (get_or ws 1 0)) 0)

abbrev pub bound_in : List ℕ → ℤ
bound_in ws = cond (has_relation ws) (less_half (get_or ws 0 0)) (pos (payload (get_or ws 0 0)))

-- THE CONSTRAINT AS WRITTEN that words state, and its BASE FORM, the constraint of document 01.
unfoldable pub as_written : List ℕ → Inequality
as_written ws = record { relation = relation_in ws; bound = bound_in ws; terms = terms_in ws }

unfoldable pub stated : List ℕ → Constraint
stated ws = base_form (as_written ws)
