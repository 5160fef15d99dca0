-- WHAT A CALL TELLS: the reply and the buffer of a call that is not refused, by derivation; and the values of a reply tell it. Assumes nothing.
use mathlib.Core.Path.{◌≡◌, refl, sym, ap, ◌∙◌}
use mathlib.Core.Logic.{◌↔◌}
use mathlib.Core.List.{List}
use Prim.Native.Nat.{ℕ}
use native.Mathlib.Omega.{arith}
use lib.ListN.{length}
use Rattle.std.specs.Prelude.{Result, Ok, Err}
use Rattle.refusal.specs.Table.{number_of, place_of, Checked, passed, unless_refused}
use Rattle.refusal.specs.declared.Refusal.{Refusal}
use Rattle.clause.specs.Meaning.{Literal, clauses_of}
use Rattle.propagation.specs.Derived.{TrueIn, Derived, Conflicting}
use Rattle.propagation.specs.Propagated.{Outcome, conflict, reached, propagated}
use Rattle.propagation.proofs.Laws.{conflict_is, settled_is}
use Rattle.propagator.specs.declared.Propagated.{Propagated}
use Rattle.propagator.specs.declared.Propagated.TheVariants.{Settled, Conflict}
use Rattle.propagator.specs.Reply.{propagated_values, input_checked, outcome_reply, outcome_bytes, Propagates}
use Rattle.propagator.proofs.Checks.{passed_is}
use Rattle.propagator.proofs.Places.{listed_known}

-- THE VALUES TELL THE REPLY: verdict 0 is settled, 1 a conflict, 2 a refusal of that number and place.
pub value_settled : (r : Result Propagated Refusal) → (propagated_values r).verdict ≡ 0 → r ≡ Ok Settled
value_settled (Ok Settled) e = refl
value_settled (Ok Conflict) e = absurd (omega arith)
value_settled (Err x) e = absurd (omega arith)

pub value_conflict : (r : Result Propagated Refusal) → (propagated_values r).verdict ≡ 1 → r ≡ Ok Conflict
value_conflict (Ok Settled) e = absurd (omega arith)
value_conflict (Ok Conflict) e = refl
value_conflict (Err x) e = absurd (omega arith)

pub value_unfit : (r : Result Propagated Refusal) → (propagated_values r).verdict ≡ 2
    → (x : Refusal) × (r ≡ Err x) × ((propagated_values r).number ≡ number_of x) × ((propagated_values r).place ≡ place_of x)
value_unfit (Ok Settled) e = absurd (omega arith)
value_unfit (Ok Conflict) e = absurd (omega arith)
value_unfit (Err x) e = (x, refl, refl, refl)

-- where the reply is no refusal the checks have passed
pub not_refused : (bs ws before after : List ℕ) (r : Result Propagated Refusal) → Propagates bs ws before after r → ((x : Refusal) → ¬ (r ≡ Err x))
    → input_checked bs ws (length before) ≡ passed
not_refused bs ws before after r p h = go (input_checked bs ws (length before)) p.reply.same
  where
    go : (c : Checked) → r ≡ unless_refused Err c (Ok (outcome_reply (propagated (clauses_of ws) bs))) → c ≡ passed
    go (Ok tt) e = refl
    go (Err x) e = absurd (h x e)

module _ (bs ws before after : List ℕ) (r : Result Propagated Refusal) (passes : input_checked bs ws (length before) ≡ passed) (promise : Propagates bs ws before after r) where
  abbrev came_to : Outcome
  came_to = propagated (clauses_of ws) bs

  -- then reply and buffer are those of what the propagation comes to
  pub told : (r ≡ Ok (outcome_reply (propagated (clauses_of ws) bs))) × (after ≡ outcome_bytes bs (propagated (clauses_of ws) bs))
  told = (
    promise.reply.same ∙ ap (λ (c : Checked). unless_refused Err c (Ok (outcome_reply came_to))) passes,
    promise.buffer ∙ ap (λ (c : Checked). unless_refused (λ x. before) c (outcome_bytes bs came_to)) passes,
  )

  abbrev answer : Outcome → Result Propagated Refusal
  answer z = Ok (outcome_reply z)

  to_conflict : (z : Outcome) → answer z ≡ Ok Conflict → z ≡ conflict
  to_conflict conflict e = refl
  to_conflict (reached b) e = cc

  to_reached : r ≡ Ok Settled → propagated (clauses_of ws) bs ≡ reached after
  to_reached e = go came_to refl
    where
      go : (z : Outcome) → came_to ≡ z → came_to ≡ reached after
      go conflict f = let t : ◌≡◌ {A = Result Propagated Refusal} (Ok Settled) (Ok Conflict) = sym e ∙ told.0 ∙ ap answer f in cc
      go (reached b) f = f ∙ ap reached (sym (told.1 ∙ ap (outcome_bytes bs) f))

  -- A CONFLICT IS REPORTED just where all literals of some clause are false in what is settled,
  pub call_conflicts : (r ≡ Ok Conflict) ↔ Conflicting (clauses_of ws) (Derived (clauses_of ws) bs)
  call_conflicts =
      let ok = (passed_is bs ws (length before) passes).0 in
      let law = conflict_is (clauses_of ws) bs (listed_known (length bs) ws ok.0) ok.1 in
      (λ e. law.0 (to_conflict came_to (sym told.0 ∙ e)), λ x. told.0 ∙ ap answer (law.1 x))

  -- and otherwise the buffer holds just what is settled
  pub call_settles : r ≡ Ok Settled → (l : Literal) → TrueIn after l ↔ Derived (clauses_of ws) bs l
  call_settles e =
      let ok = (passed_is bs ws (length before) passes).0 in
      settled_is (clauses_of ws) bs (listed_known (length bs) ws ok.0) ok.1 after (to_reached e)
