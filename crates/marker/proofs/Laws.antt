-- WHAT THE REPLY SAYS: yes just where the words state a constraint and the hand-in is right, and refusal 20 with the first bad record; the clauses of an accepted
-- hand-in admit just the solutions of the constraint as written; and a table's own words are accepted. Assumes nothing.
use mathlib.Core.Path.{◌≡◌, refl, sym, ap, ◌∙◌}
use mathlib.Core.Logic.{◌↔◌}
use mathlib.Core.List.{List, ◌++◌}
use mathlib.Core.Bool.{true, true≢false}
use Prim.Native.Nat.{ℕ, ◌≤◌}
use native.Mathlib.Omega.{arith}
use lib.IntN.{ℤ}
use lib.ListN.{length}
use Rattle.word.specs.Record.{Record, no_record, laid, records, most_nodes}
use Rattle.refusal.specs.Table.{number_of, place_of, of_words, and_then, Checked, passed}
use Rattle.refusal.specs.declared.Refusal.{Refusal}
use Rattle.std.specs.Prelude.{Ok, Err}
use Rattle.refusal.specs.declared.Refusal.TheVariants.{BadRecord}
use Rattle.refusal.proofs.Passes.{both_passed}
use Rattle.diagram.specs.Level.{Level}
use Rattle.diagram.specs.Table.{Node, table}
use Rattle.diagram.specs.Flat.{table_words, edge_words}
use Rattle.diagram.specs.Constraint.{levels}
use Rattle.diagram.proofs.Terms.{levels_ascend}
use Rattle.encoding.specs.Pattern.{clause_words}
use Rattle.inequality.specs.Claim.{AdmitsWritten}
use Rattle.inequality.proofs.Demand.{admits_written}
use Rattle.limits.specs.Limits.{main_limits}
use Rattle.constraint_words.specs.Reading.{checked, as_written, stated}
use Rattle.constraint_words.proofs.Laws.{checked_within}
use Rattle.constraint_words.proofs.Refusals.{Said, early}
use Rattle.marking.specs.HandIn.{drawing_of, RightHandIn, FirstBad, root_in}
use Rattle.marking.specs.Judged.{judged}
use Rattle.marking.proofs.Judged.{Tells, judged_says, passes_right, names_bad}
use Rattle.marking.proofs.Drawing.{root_leads, right_admits}
use Rattle.marking.proofs.Tables.{table_passes, zeros_bad}
use Rattle.marker.specs.Reply.{MarkedValues, marked_values, marked_reply}

module _ (ws t es : List ℕ) where
  -- the levels and the bound of the constraint that the words state, and the hand-in's records
  abbrev ls : List Level
  ls = levels (stated ws).terms

  abbrev a : ℤ
  a = (stated ws).bound

  abbrev xs : List Record
  xs = records t

  -- YES
  pub says_right : marked_reply ws t es ≡ passed ↔ ((checked main_limits ws ≡ passed) × RightHandIn ls a xs es)
  unfolding marked_reply
  says_right = (
    λ p. let q = both_passed (checked main_limits ws) (judged ls a xs es) p in (q.0, (passes_right ls a xs es).0 q.1),
    λ p. rw p.0 ((passes_right ls a xs es).1 p.1),
  )

  -- REFUSAL 20
  pub says_bad : (n : ℕ) → marked_reply ws t es ≡ Err (BadRecord n) ↔ ((checked main_limits ws ≡ passed) × FirstBad ls a xs es n)
  unfolding marked_reply
  says_bad n = (
    λ p. let q = go (checked main_limits ws) (early main_limits ws) p in (q.0, (names_bad ls a xs es n).0 q.1),
    λ p. rw p.0 ((names_bad ls a xs es n).1 p.1),
  )
    where
      go : (c : Checked) → Said (λ x. of_words (number_of x) ≡ true) c → and_then c (judged ls a xs es) ≡ Err (BadRecord n)
          → (c ≡ passed) × (judged ls a xs es ≡ Err (BadRecord n))
      go (Ok tt) h e = (refl, e)
      go (Err x) h e = let b : number_of x ≡ 20 = ap number_of (let f : x ≡ BadRecord n = cc in f) in absurd (true≢false (sym (rw b at h)))

  -- THE SAME BY THE VALUES of the reply, as callers in C read them: right 1, and 0 and 0;
  pub value_right : marked_values (marked_reply ws t es) ≡ record { right = 1; number = 0; place = 0 } ↔ ((checked main_limits ws ≡ passed) × RightHandIn ls a xs es)
  value_right = (λ e. says_right.0 (go (marked_reply ws t es) (ap (λ (v : MarkedValues). v.right) e)), λ p. ap marked_values (says_right.1 p))
    where
      go : (c : Checked) → (marked_values c).right ≡ 1 → c ≡ passed
      go (Ok tt) e = refl
      go (Err x) e = absurd (omega arith)

  -- right 0, number 20 and the first bad record;
  pub value_record : (n : ℕ) → marked_values (marked_reply ws t es) ≡ record { right = 0; number = 20; place = n } ↔ ((checked main_limits ws ≡ passed) × FirstBad ls a xs es n)
  unfolding marked_reply
  value_record n = (
    λ e. (says_bad n).0 (go (checked main_limits ws) (early main_limits ws) (ap (λ (v : MarkedValues). v.number) e) (ap (λ (v : MarkedValues). v.place) e)),
    λ p. ap marked_values ((says_bad n).1 p),
  )
    where
      bad : (c : Checked) → Tells ls a xs es c → (marked_values c).number ≡ 20 → (marked_values c).place ≡ n → c ≡ Err (BadRecord n)
      bad (Ok tt) s e p = absurd (omega arith)
      bad (Err x) s e p = let q : s.0 ≡ n = sym (ap place_of s.1) ∙ p in rw (s.1, q) refl

      go : (c : Checked) → Said (λ x. of_words (number_of x) ≡ true) c → (marked_values (and_then c (judged ls a xs es))).number ≡ 20
          → (marked_values (and_then c (judged ls a xs es))).place ≡ n → and_then c (judged ls a xs es) ≡ Err (BadRecord n)
      go (Ok tt) h e p = bad (judged ls a xs es) (judged_says ls a xs es) e p
      go (Err x) h e p = absurd (true≢false (sym (rw e at h)))

  -- and where the words are refused, right 0 and that refusal's number and place, whatever the hand-in is
  pub value_refused : (x : Refusal) → checked main_limits ws ≡ Err x → marked_values (marked_reply ws t es) ≡ record { right = 0; number = number_of x; place = place_of x }
  unfolding marked_reply
  value_refused x e = rw e refl

  -- THE CLAUSES OF AN ACCEPTED HAND-IN, in document 01's pattern, admit just the solutions of the constraint as written
  pub accepted_admits : marked_reply ws t es ≡ passed → AdmitsWritten (as_written ws) (clause_words ls (root_in a xs) (drawing_of ls xs es))
  unfolding stated
  accepted_admits p =
      let q = says_right.0 p in
      admits_written (as_written ws) (clause_words ls (root_in a xs) (drawing_of ls xs es))
      (right_admits (stated ws) (checked_within main_limits ws q.0) xs es q.1 (root_in a xs) (root_leads ls a xs es q.1))

-- A TABLE'S WORDS, with its edge list and whatever stands behind that, are accepted for the words that state its constraint
module _ (ws behind : List ℕ) (e : checked main_limits ws ≡ passed) (few : length (table (levels (stated ws).terms) (stated ws).bound) ≤ most_nodes) where
  abbrev own : List Node
  own = table (levels (stated ws).terms) (stated ws).bound

  pub table_accepted : marked_reply ws (table_words own) (edge_words own ++ behind) ≡ passed
  unfolding marked_reply
  table_accepted = rw e (table_passes (levels (stated ws).terms) (stated ws).bound (levels_ascend (stated ws).terms) few behind)

  -- but with a record of zeros behind them that one is the first bad record
  pub table_zeros : (rest : List ℕ) → marked_reply ws (table_words own ++ (laid no_record ++ rest)) (edge_words own ++ behind) ≡ Err (BadRecord (length own))
  unfolding marked_reply
  table_zeros rest = rw e (zeros_bad (levels (stated ws).terms) (stated ws).bound (levels_ascend (stated ws).terms) few behind rest)
