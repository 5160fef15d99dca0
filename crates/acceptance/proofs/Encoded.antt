-- THE ENCODER'S TABLES ARE ACCEPTED: of an accepted call, under whatever limits, the counted part of the table, with the lent edge list or the counted part of
-- it, is a right hand-in to the same words.
-- Assumes nothing.
use Rattle.std.proofs.Common.{Ok}
use mathlib.Core.Path.{◌≡◌, sym, ap, ◌∙◌}
use mathlib.Core.List.{List, [], ◌++◌, append-nil}
use Prim.Native.Nat.{ℕ, suc, ◌*◌, ◌-◌, ◌/◌, ◌≤◌, ◌<◌}
use native.Mathlib.Omega.{arith}
use lib.ListN.{length, take, replicate}
use lib.Seq.{take_at}
use Rattle.word.specs.Record.{record_words, no_record, laid, most_nodes}
use Rattle.word.proofs.Laid.{flat_length}
use Rattle.std.specs.Prelude.{Ok, Err}
use Rattle.refusal.specs.Table.{passed}
use Rattle.refusal.specs.declared.Refusal.TheVariants.{BadRecord}
use Rattle.diagram.specs.Flat.{records_from, table_words, edge_words}
use Rattle.diagram.proofs.Written.{records_from-length}
use Rattle.limits.specs.declared.Limits.{Limits}
use Rattle.constraint_words.specs.Reading.{checked, stated}
use Rattle.constraint_words.proofs.Laws.{checked_within}
use Rattle.constraint_words.proofs.Limits.{passed_main}
use Rattle.filler.specs.declared.Counts.{Counts}
use Rattle.filler.specs.Filled.{nodes_for}
use Rattle.encoder_levels.specs.Reply.{counts_within}
use Rattle.encoder_levels.proofs.Answers.{counts_of, same_nodes, same_edges}
use Rattle.encoder.specs.Promise.{Promise}
use Rattle.encoder.proofs.Answers.{promise_passed, promise_counted}
use Rattle.encoder.proofs.Meant.{edges_length}
use Rattle.marker.specs.Reply.{marked_reply}
use Rattle.marker.proofs.Laws.{table_accepted, table_zeros}

-- zeros for a record and more
zeros_laid : (k : ℕ) → record_words ≤ k → replicate k 0 ≡ laid no_record ++ replicate (k - record_words) 0
zeros_laid k h = ap (λ (m : ℕ). replicate m 0) (let q : k ≡ suc (suc (suc (suc (suc (k - record_words))))) = omega arith in q)

module _ (l : Limits) (ws t e w t' e' w' : List ℕ) (n : Counts) (p : Promise l ws t e w t' e' w' (Ok n)) where
  call_passed : (checked l ws ≡ passed) × (Ok n ≡ counts_within l (stated ws) (length t) (length e) (length w))
  call_passed = promise_passed l ws t e w t' e' w' n p

  counted : (length (nodes_for (stated ws)) ≤ most_nodes) × (n ≡ counts_of (stated ws))
  counted = promise_counted l ws t e w t' e' w' n p

  -- the counted part is the table's words
  part : take (n.nodes * record_words) t' ≡ table_words (nodes_for (stated ws))
  part =
      let ns = nodes_for (stated ws) in
      ap (take (n.nodes * record_words)) p.table
      ∙ take_at (table_words ns) (replicate (length t - length (table_words ns)) 0) (n.nodes * record_words)
      (omega (arith, flat_length (records_from ns 0 0 ns), records_from-length ns 0 0 ns, same_nodes counted.1))

  -- with its edges and whatever stands behind them the table is accepted
  accepted_with : (es behind : List ℕ) → es ≡ edge_words (nodes_for (stated ws)) ++ behind → marked_reply ws (take (n.nodes * record_words) t') es ≡ passed
  accepted_with es behind e =
      ap (λ (x : List ℕ). marked_reply ws x es) part
      ∙ ap (marked_reply ws (table_words (nodes_for (stated ws)))) e
      ∙ table_accepted ws behind (passed_main l ws call_passed.0) counted.0

  -- THE LAW, over the lists that an accepted call leaves: with the whole lent edge list,
  pub encoded_accepted : marked_reply ws (take (n.nodes * record_words) t') e' ≡ passed
  encoded_accepted = accepted_with e' (replicate (length e - length (edge_words (nodes_for (stated ws)))) 0) p.edges

  -- and with the edges that are counted
  pub encoded_counted : marked_reply ws (take (n.nodes * record_words) t') (take n.edges e') ≡ passed
  encoded_counted =
      let es = edge_words (nodes_for (stated ws)) in
      accepted_with (take n.edges e') []
      (ap (take n.edges) p.edges
      ∙ take_at es (replicate (length e - length es) 0) n.edges
      (omega (arith, edges_length (stated ws) (checked_within l ws call_passed.0) counted.0, same_edges counted.1))
      ∙ sym (append-nil es))

  -- BUT WITH THE ZEROS BEHIND THE NODES, where there is a record of them, the first bad record is that behind the last node
  pub encoded_zeros : n.nodes < length t / record_words → marked_reply ws t' e' ≡ Err (BadRecord n.nodes)
  encoded_zeros h =
      let ns = nodes_for (stated ws) in
      let k = length t - length (table_words ns) in
      let room : record_words ≤ k = omega (arith, flat_length (records_from ns 0 0 ns), records_from-length ns 0 0 ns, same_nodes counted.1) in
      ap (λ (x : List ℕ). marked_reply ws x e') (p.table ∙ ap (λ (x : List ℕ). table_words ns ++ x) (zeros_laid k room))
      ∙ ap (marked_reply ws (table_words ns ++ (laid no_record ++ replicate (k - record_words) 0))) p.edges
      ∙ table_zeros ws (replicate (length e - length (edge_words ns)) 0) (passed_main l ws call_passed.0) counted.0 (replicate (k - record_words) 0)
      ∙ ap (λ (m : ℕ). Err (BadRecord m)) (sym (same_nodes counted.1))
