-- THE CLAUSE TESTER'S REPLY to value bytes and a clause list, and the values of a reply. Assumes nothing.
use Rattle.std.specs.Prelude.{List, [], ◌∷◌, false, cond, ℕ, zero, suc, ◌+◌, leb, eqb, length, get_or, Option, Some, None, Result, Ok, Err}
use Rattle.refusal.specs.Table.{number_of, place_of, and_then, unless, unless_refused}
use Rattle.refusal.specs.Table.{Checked}
use Rattle.refusal.specs.Table.{passed}
use Rattle.refusal.specs.declared.Refusal.{Refusal}
use Rattle.refusal.specs.declared.Refusal.TheVariants.{ValueByte}
use Rattle.clause.specs.Meaning.{Clause, Values, clauses_of, clause_true}
use Rattle.clause.specs.Check.{list_from}
use Rattle.tester.specs.declared.NotTrue.{NotTrue}

-- THE VALUES OF A REPLY: all true is 0 with number and place 0; a clause without a true literal is 1, its number and the place of its first word; a refusal
-- is 2, its number and place.
pub record TestedValues : Type 0 where
  pub verdict : ℕ
  pub number : ℕ
  pub place : ℕ

abbrev pub tested_values : Result (Option NotTrue) Refusal → TestedValues
tested_values (Ok None) = record { verdict = 0; number = 0; place = 0 }
tested_values (Ok (Some x)) = record { verdict = 1; number = x.clause; place = x.at }
tested_values (Err x) = record { verdict = 2; number = number_of x; place = place_of x }

-- Clause k, whose words begin at a place, is the first that is not true.
abbrev pub not_true : ℕ → ℕ → Option NotTrue
not_true k at = Some (record { clause = k; at = at })

-- The value of a Boolean: byte v − 1 for Boolean v.
abbrev pub value_in : List ℕ → Values
value_in bs zero = false
value_in bs (suc b) = eqb (get_or bs b 0) 1

-- Refusal 10, from a place on: no value byte is above `most`, which is 1 here, and 2 where a Boolean may be open.
unfoldable pub values_from : ℕ → ℕ → List ℕ → Checked
values_from most at [] = passed
values_from most at (b ∷ bs) = and_then (unless (leb b most) (ValueByte at)) (values_from most (suc at) bs)

-- The reply by the clauses alone: the first without a true literal and the place where its words begin, which for an empty clause is its end word; or that
-- all are true. m clauses came before, and the next begins at `at`.
unfoldable pub scan : Values → ℕ → ℕ → List Clause → Option NotTrue
scan v m at [] = None
scan v m at (c ∷ cs) = let more : Option NotTrue = scan v (suc m) (suc (at + length c)) cs in cond (clause_true v c) more (not_true m at)

-- THE REPLY: every check comes before the scan.
unfoldable pub tested : List ℕ → List ℕ → Result (Option NotTrue) Refusal
tested bs ws = unless_refused Err (and_then (values_from 1 0 bs) (list_from (length bs) 0 0 ws)) (Ok (scan (value_in bs) 0 0 (clauses_of ws)))
