-- UNIT PROPAGATION IS EXACT ON THE ENCODER'S LIST: on the clause words that an accepted encoding call has left, a call of the propagator that is not refused
-- tells all that the constraint as written says. Assumes nothing.
use Rattle.std.proofs.Common.{Result, Ok, Err}
use mathlib.Core.Path.{◌≡◌, sym, subst}
use mathlib.Core.List.{List}
use Prim.Native.Nat.{ℕ, ◌+◌, ◌≤◌}
use native.Mathlib.Omega.{arith}
use lib.ListN.{length, take}
use Rattle.word.specs.Record.{most_nodes}
use Rattle.refusal.specs.declared.Refusal.{Refusal}
use Rattle.refusal.specs.Table.{passed}
use Rattle.diagram.specs.Constraint.{Within}
use Rattle.diagram.proofs.Drawn.{table_right}
use Rattle.diagram.proofs.Terms.{levels_ascend}
use Rattle.encoding.specs.Boolean.{orders}
use Rattle.encoding.specs.Claim.{Solves}
use Rattle.encoding.proofs.Demand.{last_boolean_lem, words_legal}
use Rattle.inequality.specs.Claim.{base_levels, SolvesWritten}
use Rattle.inequality.proofs.Demand.{solves_written}
use Rattle.limits.specs.declared.Limits.{Limits}
use Rattle.constraint_words.specs.Reading.{checked, as_written, stated}
use Rattle.constraint_words.proofs.Laws.{checked_within}
use Rattle.filler.specs.declared.Counts.{Counts}
use Rattle.filler.specs.Filled.{levels_in, nodes_for, root_for, clauses_for}
use Rattle.encoder_levels.specs.Reply.{counts_within}
use Rattle.encoder_levels.proofs.Answers.{counts_of, same_nodes}
use Rattle.encoder.specs.Promise.{Promise}
use Rattle.encoder.proofs.Answers.{promise_passed, promise_counted, promise_words}
use Rattle.clause.specs.Meaning.{Values, clauses_of}
use Rattle.propagation.specs.Derived.{Bytes}
use Rattle.propagation.specs.Propagated.{propagated}
use Rattle.propagator.specs.declared.Propagated.{Propagated}
use Rattle.propagator.specs.Reply.{input_checked, Propagates}
use Rattle.propagator.proofs.Checks.{passed_is, call_passes}
use Rattle.propagator.proofs.Laws.{not_refused, told}
use Rattle.exactness.specs.Exact.{AuxiliaryOpen, Exact, ExactCall}
use Rattle.exactness.proofs.Words.{exact_for, words_exact}

-- a call on words that are exact is exact
call_exact : (S : Values → Type 0) (D : ℕ) (bs ws before after : List ℕ) (r : Result Propagated Refusal) → input_checked bs ws (length before) ≡ passed
    → Propagates bs ws before after r → Exact S D bs (propagated (clauses_of ws) bs) → ExactCall S D bs after r
call_exact S D bs ws before after r passes promise exact =
    let t = told bs ws before after r passes promise in
    record { outcome = propagated (clauses_of ws) bs; reply = t.0; buffer = t.1; exact = exact }

-- A CONSTRAINT AS WRITTEN, whose base form is within the limits and has at most 65,536 nodes: its clause words are exact wherever they are a legal list
module _ (ws : List ℕ) (within : Within (stated ws)) (few : length (nodes_for (stated ws)) ≤ most_nodes) (bs : List ℕ) (room : ℕ)
    (passes : input_checked bs (clauses_for (stated ws)) room ≡ passed) (aux : AuxiliaryOpen (orders (base_levels (as_written ws))) (length (nodes_for (stated ws))) bs) where
  pub written_exact : Exact (SolvesWritten (as_written ws)) (orders (base_levels (as_written ws))) bs (propagated (clauses_of (clauses_for (stated ws))) bs)
  unfolding stated
  written_exact =
      let c = stated ws in
      let t = passed_is bs (clauses_for c) room passes in
      exact_for (Solves (levels_in c) c.bound) (SolvesWritten (as_written ws)) (orders (levels_in c)) bs (propagated (clauses_of (clauses_for c)) bs)
      (λ v. ((solves_written (as_written ws) v).1, (solves_written (as_written ws) v).0))
      (words_exact (levels_in c) c.bound (nodes_for c) (root_for c) (levels_ascend c.terms) (table_right (levels_in c) c.bound (levels_ascend c.terms))
      (last_boolean_lem c within few) bs t.0.0 t.0.1 aux)

-- AN ACCEPTED CALL of the encoder, under whatever limits, by its promise
module _ (l : Limits) (ws t e w t' e' w' : List ℕ) (n : Counts) (p : Promise l ws t e w t' e' w' (Ok n)) where
  call_passed : (checked l ws ≡ passed) × (Ok n ≡ counts_within l (stated ws) (length t) (length e) (length w))
  call_passed = promise_passed l ws t e w t' e' w' n p

  within : Within (stated ws)
  within = checked_within l ws call_passed.0

  counted : (length (nodes_for (stated ws)) ≤ most_nodes) × (n ≡ counts_of (stated ws))
  counted = promise_counted l ws t e w t' e' w' n p

  -- THE CALL IS NOT REFUSED with a byte of 0 to 2 for each Boolean of the list and a buffer of that length
  pub encoded_passes : (bs : List ℕ) (room : ℕ) → orders (base_levels (as_written ws)) + 2 + n.nodes ≤ length bs → Bytes bs → room ≡ length bs
      → input_checked bs (take n.words w') room ≡ passed
  unfolding stated
  encoded_passes bs room size legal same =
      subst (λ (x : List ℕ). input_checked bs x room ≡ passed) (sym (promise_words l ws t e w t' e' w' n p))
      (call_passes bs (clauses_for (stated ws)) room legal
      (words_legal (stated ws) within counted.0 (length bs) (omega (arith, size, same_nodes counted.1))) same)

  -- IT IS EXACT: any values of the order Booleans, T, F and all nodes open
  pub encoded_exact : (bs before after : List ℕ) (r : Result Propagated Refusal) → AuxiliaryOpen (orders (base_levels (as_written ws))) n.nodes bs
      → Propagates bs (take n.words w') before after r → ((x : Refusal) → ¬ (r ≡ Err x))
      → ExactCall (SolvesWritten (as_written ws)) (orders (base_levels (as_written ws))) bs after r
  encoded_exact bs before after r aux q h =
      let promise = subst (λ (x : List ℕ). Propagates bs x before after r) (promise_words l ws t e w t' e' w' n p) q in
      let passes = not_refused bs (clauses_for (stated ws)) before after r promise h in
      call_exact (SolvesWritten (as_written ws)) (orders (base_levels (as_written ws))) bs (clauses_for (stated ws)) before after r passes promise
      (written_exact ws within counted.0 bs (length before) passes
      (subst (λ (k : ℕ). AuxiliaryOpen (orders (base_levels (as_written ws))) k bs) (same_nodes counted.1) aux))
