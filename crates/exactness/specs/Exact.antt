-- EXACTNESS of unit propagation, one claim over any notion of a solution: a conflict is found just where there is no completion, and otherwise just those order
-- Booleans are settled on which all completions agree. The laws ask that every auxiliary Boolean is open at the start. Assumes nothing.
use Rattle.std.specs.Prelude.{◌≡◌, ◌↔◌, List, Bool, ℕ, ◌+◌, ◌≤◌, ◌<◌, Result, Ok}
use Rattle.refusal.specs.declared.Refusal.{Refusal}
use Rattle.clause.specs.Meaning.{Values}
use Rattle.propagation.specs.Derived.{byte_of, byte}
use Rattle.propagation.specs.Propagated.{Outcome, conflict, reached}
use Rattle.propagator.specs.declared.Propagated.{Propagated}
use Rattle.propagator.specs.Reply.{outcome_reply, outcome_bytes}

-- A COMPLETION of bytes bs: a solution that keeps what the bytes say of the D order Booleans. A solution obeys the constraint and the order rule.
pub record Completion (Solution : Values → Type 0) (D : ℕ) (bs : List ℕ) (v : Values) : Type 0 where
  pub solution : Solution v
  pub keeps : (b : ℕ) (x : Bool) → 1 ≤ b → b ≤ D → byte_of bs b ≡ byte x → v b ≡ x

-- T, F and all nodes are open: the Booleans behind the D order Booleans.
abbrev pub AuxiliaryOpen : ℕ → ℕ → List ℕ → Type 0
AuxiliaryOpen D nodes bs = (b : ℕ) → D < b → b ≤ D + 2 + nodes → byte_of bs b ≡ 2

-- A Boolean is settled in bytes; all completions agree on a Boolean.
abbrev pub IsSettled : List ℕ → ℕ → Type 0
IsSettled b k = (x : Bool) × (byte_of b k ≡ byte x)

abbrev pub Agree : (Values → Type 0) → ℕ → List ℕ → ℕ → Type 0
Agree Solution D bs k = (v w : Values) → Completion Solution D bs v → Completion Solution D bs w → v k ≡ w k

-- THE CLAIM, of what propagation from bytes bs comes to.
pub record Exact (Solution : Values → Type 0) (D : ℕ) (bs : List ℕ) (z : Outcome) : Type 0 where
  -- a conflict is found if and only if there is no completion
  pub conflicts : (z ≡ conflict) ↔ ((v : Values) → ¬ Completion Solution D bs v)
  -- otherwise there is one,
  pub completes : (b : List ℕ) → z ≡ reached b → (v : Values) × Completion Solution D bs v
  -- an order Boolean is settled if and only if all completions agree on it,
  pub settles : (b : List ℕ) → z ≡ reached b → (k : ℕ) → 1 ≤ k → k ≤ D → IsSettled b k ↔ Agree Solution D bs k
  -- and it is settled as they have it
  pub agrees : (b : List ℕ) → z ≡ reached b → (k : ℕ) → 1 ≤ k → k ≤ D → (x : Bool) → byte_of b k ≡ byte x
      → (v : Values) → Completion Solution D bs v → v k ≡ x

-- THE CLAIM OF A CALL that is not refused: its reply r and the bytes that it leaves in the buffer tell of something exact.
pub record ExactCall (Solution : Values → Type 0) (D : ℕ) (bs after : List ℕ) (r : Result Propagated Refusal) : Type 0 where
  pub outcome : Outcome
  pub reply : r ≡ Ok (outcome_reply outcome)
  pub buffer : after ≡ outcome_bytes bs outcome
  pub exact : Exact Solution D bs outcome
