-- THE PROPAGATOR'S REPLY to value bytes and a clause list, the values of a reply, and the lent buffer after it. Assumes nothing.
use Rattle.std.specs.Prelude.{◌≡◌, List, ℕ, eqb, length, Result, Ok, Err}
use Rattle.word.specs.Gives.{Gives}
use Rattle.refusal.specs.Table.{number_of, place_of, Checked, and_then, unless, unless_refused}
use Rattle.refusal.specs.declared.Refusal.{Refusal}
use Rattle.refusal.specs.declared.Refusal.TheVariants.{BufferLength}
use Rattle.clause.specs.Meaning.{clauses_of}
use Rattle.clause.specs.Check.{list_from}
use Rattle.tester.specs.Tested.{values_from}
use Rattle.propagation.specs.Propagated.{Outcome, conflict, reached, propagated}
use Rattle.propagator.specs.declared.Propagated.{Propagated}
use Rattle.propagator.specs.declared.Propagated.TheVariants.{Settled, Conflict}

-- THE VALUES OF A REPLY: settled is 0 and a conflict 1, both with number and place 0; a refusal is 2, its number and place.
pub record PropagatedValues : Type 0 where
  pub verdict : ℕ
  pub number : ℕ
  pub place : ℕ

abbrev pub propagated_values : Result Propagated Refusal → PropagatedValues
propagated_values (Ok Settled) = record { verdict = 0; number = 0; place = 0 }
propagated_values (Ok Conflict) = record { verdict = 1; number = 0; place = 0 }
propagated_values (Err x) = record { verdict = 2; number = number_of x; place = place_of x }

-- THE CHECKS, in order: 10 over all bytes, 11 to 14 over the list, where 12 is also a Boolean beyond the values, and 19 for a buffer of another length.
unfoldable pub input_checked : List ℕ → List ℕ → ℕ → Checked
input_checked bs ws room = and_then (values_from 2 0 bs) (and_then (list_from (length bs) 0 0 ws) (unless (eqb room (length bs)) BufferLength))

-- By what unit propagation comes to: the reply, and the bytes that stand in the buffer, which after a conflict are the starting ones.
abbrev pub outcome_reply : Outcome → Propagated
outcome_reply conflict = Conflict
outcome_reply (reached b) = Settled

abbrev pub outcome_bytes : List ℕ → Outcome → List ℕ
outcome_bytes bs conflict = bs
outcome_bytes bs (reached b) = b

-- THE REPLY, and THE BUFFER after the call: every check comes before the propagation, and a refusal leaves the buffer as it was.
abbrev pub propagated_reply : List ℕ → List ℕ → ℕ → Result Propagated Refusal
propagated_reply bs ws room = unless_refused Err (input_checked bs ws room) (Ok (outcome_reply (propagated (clauses_of ws) bs)))

abbrev pub propagated_left : List ℕ → List ℕ → List ℕ → List ℕ
propagated_left bs ws before = unless_refused (λ x. before) (input_checked bs ws (length before)) (outcome_bytes bs (propagated (clauses_of ws) bs))

-- THE PROMISE of the call, over the buffer before and after.
pub record Propagates (bs ws before after : List ℕ) (r : Result Propagated Refusal) : Type 0 where
  pub reply : Gives propagated_values (propagated_reply bs ws (length before)) r
  pub buffer : after ≡ propagated_left bs ws before
