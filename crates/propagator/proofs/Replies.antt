-- THE REPLY AND THE BUFFER, case by case. Assumes nothing.
use mathlib.Core.Path.{◌≡◌, sym, ap, subst}
use mathlib.Core.List.{List}
use Prim.Native.Nat.{ℕ}
use lib.ListN.{length}
use Rattle.word.proofs.Giving.{gives}
use Rattle.std.specs.Prelude.{Ok, Err}
use Rattle.refusal.specs.Table.{Checked, unless_refused}
use Rattle.refusal.specs.declared.Refusal.{Refusal}
use Rattle.clause.specs.Meaning.{clauses_of}
use Rattle.propagation.specs.Propagated.{Outcome, propagated}
use Rattle.propagator.specs.Reply.{propagated_values, input_checked, outcome_reply, Propagates}
use Rattle.propagator.specs.Pass.{Propagable}

-- a copy of bytes that are ready
pub ready_copy : (ws bs b : List ℕ) → b ≡ bs → Propagable ws bs → Propagable ws b
ready_copy ws bs b e r = subst (Propagable ws) (sym e) r

module _ (bs ws before : List ℕ) where
  abbrev Reached : Outcome
  Reached = propagated (clauses_of ws) bs

  pub reply_refused : (x : Refusal) → input_checked bs ws (length before) ≡ Err x → Propagates bs ws before before (Err x)
  reply_refused x e =
      record {
        reply = gives propagated_values (ap (λ (c : Checked). unless_refused Err c (Ok (outcome_reply Reached))) (sym e));
        buffer = rw e;
      }
