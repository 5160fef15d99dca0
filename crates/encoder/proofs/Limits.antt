-- THE LIMITS OF A CALL: what is accepted under some limits is accepted under wider ones in the same lent room, with the same counts and the same words in all
-- three lists; a limit above the main one counts as the main one; no nodes allowed leaves the decided roots; and Boolean numbers end at 66,498. Assumes nothing.
use Rattle.refusal.specs.declared.Refusal.{Refusal}
use Rattle.std.proofs.Common.{Result, Ok, Err}
use mathlib.Core.Path.{◌≡◌, refl, sym, ap, ◌∙◌}
use mathlib.Core.Logic.{◌⊎◌, inl, inr}
use mathlib.Core.List.{List}
use Prim.Native.Nat.{ℕ, ◌≤◌, ◌<◌}
use native.Mathlib.Omega.{arith}
use lib.ListN.{length, take}
use Rattle.word.specs.Record.{most_nodes}
use Rattle.word.specs.Padded.{padded}
use Rattle.word.specs.Edge.{Edge, F, T, to}
use Rattle.refusal.specs.Table.{unless_refused}
use Rattle.refusal.specs.Table.{Checked}
use Rattle.std.specs.Prelude.{Ok, Err}
use Rattle.refusal.specs.Table.{passed}
use Rattle.refusal.specs.declared.Refusal.TheVariants.{TooManyNodes, TermCount}
use Rattle.diagram.specs.Claim.{Leads}
use Rattle.diagram.specs.Flat.{table_words, edge_words}
use Rattle.diagram.specs.Constraint.{Constraint, most_terms}
use Rattle.diagram.proofs.Terms.{levels_ascend}
use Rattle.diagram.proofs.Drawn.{table_right}
use Rattle.clause.specs.Check.{list_from}
use Rattle.encoding.specs.Boolean.{most_booleans}
use Rattle.encoding.proofs.Demand.{booleans_end, words_legal}
use Rattle.limits.specs.declared.Limits.{Limits}
use Rattle.limits.specs.Limits.{main_limits, term_limit, node_limit, Narrower}
use Rattle.constraint_words.specs.Reading.{terms_in, checked, stated}
use Rattle.constraint_words.proofs.Laws.{checked_within}
use Rattle.constraint_words.proofs.Limits.{passed_wider, refused_narrower, checked_same}
use Rattle.filler.specs.declared.Counts.{Counts}
use Rattle.filler.specs.Filled.{levels_in, nodes_for, root_for, clauses_for}
use Rattle.encoder_levels.specs.Reply.{counts_within}
use Rattle.encoder_levels.proofs.Answers.{accept, refuse_6, same_nodes}
use Rattle.encoder.specs.Encoded.{encoded, encoded_left}
use Rattle.encoder.specs.Promise.{Promise}
use Rattle.encoder.proofs.Answers.{accepted_fit, accepted_passed, promise_passed, promise_counted, promise_words}

-- ---- Wider limits

-- the reply for words that pass
passed_reply : (l : Limits) (ws : List ℕ) (t e w : ℕ) → checked l ws ≡ passed → encoded l ws t e w ≡ counts_within l (stated ws) t e w
unfolding encoded
passed_reply l ws t e w ok = ap (λ (k : Checked). unless_refused Err k (counts_within l (stated ws) t e w)) ok

-- WHAT IS ACCEPTED is accepted under wider limits, with the same counts,
pub accepted_wider : (l m : Limits) → Narrower l m → (ws : List ℕ) (t e w : ℕ) (n : Counts) → Ok n ≡ encoded l ws t e w → encoded m ws t e w ≡ Ok n
accepted_wider l m h ws t e w n q =
    let p = accepted_passed l ws t e w n q in
    let f = accepted_fit l (stated ws) t e w n p.1 in
    passed_reply m ws t e w (passed_wider l m ws p.0 h.0)
    ∙ accept m (stated ws) t e w (omega (arith, f.nodes, h.1)) f.edges f.words
    ∙ ap Ok (sym f.counts)

-- and the main ones are the widest.
pub main_widest : (l : Limits) → Narrower l main_limits
main_widest l = (omega arith, omega arith)

-- THE LIMITS ARE READ: what is accepted under some limits is refused with 3 under others that allow fewer terms, and with 6 where these allow the terms but fewer
-- nodes.
pub refused_3 : (l m : Limits) (ws : List ℕ) (t e w : ℕ) (n : Counts) → Ok n ≡ encoded l ws t e w → term_limit m < length (terms_in ws) → encoded m ws t e w ≡ Err (TermCount (length ws))
unfolding encoded
refused_3 l m ws t e w n q h =
    let p = accepted_passed l ws t e w n q in
    ap (λ (k : Checked). unless_refused Err k (counts_within m (stated ws) t e w)) (refused_narrower l m ws p.0 h)

pub refused_6 : (l m : Limits) (ws : List ℕ) (t e w : ℕ) (n : Counts) → Ok n ≡ encoded l ws t e w → term_limit l ≤ term_limit m → node_limit m < n.nodes → encoded m ws t e w ≡ Err TooManyNodes
refused_6 l m ws t e w n q h k =
    let p = accepted_passed l ws t e w n q in
    let f = accepted_fit l (stated ws) t e w n p.1 in
    passed_reply m ws t e w (passed_wider l m ws p.0 h) ∙ refuse_6 m (stated ws) t e w (omega (arith, same_nodes f.counts, k))

-- A CALL with the words of an accepted one, under wider limits, in lists of the same lengths, whatever these held: it accepts too, and leaves the same.
pub record SameAnswer (n : Counts) (t e w u f x : List ℕ) (r : Result Counts Refusal) : Type 0 where
  pub reply : r ≡ Ok n
  pub table : u ≡ t
  pub edges : f ≡ e
  pub clauses : x ≡ w

module _ (l m : Limits) (wider : Narrower l m) (ws t e w t' e' w' : List ℕ) (n : Counts) (p : Promise l ws t e w t' e' w' (Ok n)) (u f x u' f' x' : List ℕ) (r : Result Counts Refusal) (q : Promise m ws u f x u' f' x' r)
    (same : (length u ≡ length t) × (length f ≡ length e) × (length x ≡ length w)) where
  accepted : r ≡ Ok n
  accepted =
      q.reply.same
      ∙ (λ i. encoded m ws (same.0 i) (same.1 i) (same.2 i))
      ∙ accepted_wider l m wider ws (length t) (length e) (length w) n p.reply.same

  -- a list of the one call and one of the other
  left : (before old after : List ℕ) (result now : List ℕ) → length before ≡ length old → after ≡ encoded_left r before result → now ≡ padded (length old) result → after ≡ now
  left before old after result now k a b =
      a ∙ ap (λ (y : Result Counts Refusal). encoded_left y before result) accepted ∙ ap (λ (j : ℕ). padded j result) k ∙ sym b

  pub same_answer_wider : SameAnswer n t' e' w' u' f' x' r
  same_answer_wider =
      record {
        reply = accepted;
        table = left u t u' (table_words (nodes_for (stated ws))) t' same.0 q.table p.table;
        edges = left f e f' (edge_words (nodes_for (stated ws))) e' same.1 q.edges p.edges;
        clauses = left x w x' (clauses_for (stated ws)) w' same.2 q.clauses p.clauses;
      }

-- ---- Limits that count the same, among them all from the main ones on

counts_same : (l m : Limits) → node_limit l ≡ node_limit m → (c : Constraint) (t e w : ℕ) → counts_within l c t e w ≡ counts_within m c t e w
unfolding counts_within
counts_same l m h c t e w = rw h

pub encoded_same : (l m : Limits) → term_limit l ≡ term_limit m → node_limit l ≡ node_limit m → (ws : List ℕ) (t e w : ℕ) → encoded l ws t e w ≡ encoded m ws t e w
unfolding encoded
encoded_same l m h k ws t e w =
    ap (λ (y : Checked). unless_refused Err y (counts_within l (stated ws) t e w)) (checked_same l m h ws)
    ∙ ap (unless_refused Err (checked m ws)) (counts_same l m k (stated ws) t e w)

-- LIMITS ABOVE THE MAIN ONES count as the main ones.
pub above_main : (l : Limits) → most_terms ≤ l.terms → most_nodes ≤ l.nodes → (ws : List ℕ) (t e w : ℕ) → encoded l ws t e w ≡ encoded main_limits ws t e w
above_main l h k ws t e w = encoded_same l main_limits (omega arith) (omega arith) ws t e w

-- ---- An accepted call, under whatever limits

module _ (l : Limits) (ws t e w t' e' w' : List ℕ) (n : Counts) (p : Promise l ws t e w t' e' w' (Ok n)) where
  -- NO NODES ALLOWED: there are none, and the root is F or T.
  pub none_decided : l.nodes ≡ 0 → (n.nodes ≡ 0) × ((root_for (stated ws) ≡ F) ⊎ (root_for (stated ws) ≡ T))
  none_decided h =
      let c = stated ws in
      let none : length (nodes_for c) ≡ 0 = omega (arith, (accepted_fit l c (length t) (length e) (length w) n (promise_passed l ws t e w t' e' w' n p).1).nodes, h) in
      (omega (arith, none, same_nodes (promise_counted l ws t e w t' e' w' n p).1), go none (root_for c) refl (table_right (levels_in c) c.bound (levels_ascend c.terms)).rooted)
    where
      go : length (nodes_for (stated ws)) ≡ 0 → (top : Edge) → root_for (stated ws) ≡ top → Leads (levels_in (stated ws)) (nodes_for (stated ws)) 0 top (stated ws).bound
          → (root_for (stated ws) ≡ F) ⊎ (root_for (stated ws) ≡ T)
      go none F is leads = inl is
      go none T is leads = inr is
      go none (to k) is leads = absurd (omega (arith, leads.0.0, none))

  -- BOOLEAN NUMBERS END at 66,498: the clause words are a legal list over so many.
  pub booleans_known : list_from most_booleans 0 0 (take n.words w') ≡ passed
  booleans_known =
      let c = stated ws in
      let within = checked_within l ws (promise_passed l ws t e w t' e' w' n p).0 in
      let few = (promise_counted l ws t e w t' e' w' n p).0 in
      ap (list_from most_booleans 0 0) (promise_words l ws t e w t' e' w' n p) ∙ words_legal c within few most_booleans (booleans_end c within few)
