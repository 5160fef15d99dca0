-- UNIT PROPAGATION as a definition that computes: passes over the clauses; a unit clause settles its literal at once. Assumes nothing.
use Rattle.std.specs.Prelude.{List, [], ◌∷◌, Bool, cond, not, ◌&&◌, ℕ, zero, suc, ◌-◌, eqb, length, set}
use Rattle.clause.specs.Meaning.{Literal, Clause, same}
use Rattle.propagation.specs.Derived.{byte_of, byte}

-- What a clause is in bytes: UNIT, where one of its literals is open and all others are false; FALSIFIED, where all are false; or neither.
pub data Status : Type 0 where
  neither : Status
  unit : Literal → Status
  falsified : Status

abbrev pub same_literal : Literal → Literal → Bool
same_literal k l = eqb k.of l.of && same k.says l.says

-- One open literal more: it makes a falsified clause unit, and a unit clause neither, but that the same literal once more changes nothing.
abbrev pub met_open : Literal → Status → Status
met_open l neither = neither
met_open l (unit k) = cond (same_literal l k) (unit k) neither
met_open l falsified = unit l

-- One literal more, whose Boolean has the byte n: with a true one the clause is neither, and a false one changes nothing.
abbrev pub met_by : ℕ → Literal → Status → Status
met_by n l s = cond (eqb n (byte l.says)) neither (cond (eqb n (byte (not l.says))) s (met_open l s))

abbrev pub met : List ℕ → Literal → Status → Status
met bs l s = met_by (byte_of bs l.of) l s

-- THE STATUS OF A CLAUSE, by its literals in turn.
unfoldable pub status_from : List ℕ → Status → Clause → Status
status_from bs s [] = s
status_from bs s (l ∷ c) = status_from bs (met bs l s) c

abbrev pub status : List ℕ → Clause → Status
status bs c = status_from bs falsified c

-- What propagation comes to: bytes that are reached, or a conflict, after which nothing is done.
pub data Outcome : Type 0 where
  conflict : Outcome
  reached : List ℕ → Outcome

abbrev pub onward : Outcome → (List ℕ → Outcome) → Outcome
onward conflict f = conflict
onward (reached bs) f = f bs

abbrev pub put_literal : List ℕ → Literal → List ℕ
put_literal bs l = set bs (l.of - 1) (byte l.says)

abbrev pub settle_one : Status → List ℕ → Outcome
settle_one neither bs = reached bs
settle_one (unit l) bs = reached (put_literal bs l)
settle_one falsified bs = conflict

-- One pass, and n of them.
unfoldable pub pass : List Clause → List ℕ → Outcome
pass [] bs = reached bs
pass (c ∷ cs) bs = onward (settle_one (status bs c) bs) (pass cs)

unfoldable pub passes : ℕ → List Clause → List ℕ → Outcome
passes zero cs bs = reached bs
passes (suc n) cs bs = onward (pass cs bs) (passes n cs)

-- UNIT PROPAGATION: each pass but the last settles a Boolean, so one pass more than there are bytes is enough.
unfoldable pub propagated : List Clause → List ℕ → Outcome
propagated cs bs = passes (suc (length bs)) cs bs
