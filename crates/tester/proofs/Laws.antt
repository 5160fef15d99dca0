-- WHAT THE REPLY SAYS of values and a list that pass both checks: "all true" just where every clause has a true literal, and otherwise the first clause
-- without one and the place where its words begin. By induction on the clauses. Assumes nothing.
use mathlib.Core.Path.{◌≡◌, refl, sym, ap, ap₂, subst₂, ◌∙◌}
use mathlib.Core.Logic.{◌↔◌, ◌⊎◌, inl, inr, ⊎_elim}
use mathlib.Core.List.{List, [], ◌∷◌, ◌++◌}
use mathlib.Core.Bool.{Bool, true, false, true≢false}
use Prim.Native.Nat.{ℕ, zero, suc, ◌+◌, ◌<◌}
use native.Mathlib.Omega.{arith}
use lib.ListN.{length, get_or, take, drop, length-append, take-append-drop}
use lib.Seq.{take_at, drop_at, get_or_at}
use Rattle.word.specs.Word.{end_word}
use Rattle.refusal.specs.Table.{number_of, place_of}
use Rattle.refusal.specs.declared.Refusal.{Refusal}
use Rattle.std.specs.Prelude.{Err}
use Rattle.refusal.specs.Table.{passed}
use Rattle.clause.specs.Meaning.{Clause, Values, ClauseTrue, AllTrue as EachTrue, clause_true, clauses_of, words_of}
use Rattle.clause.specs.Check.{list_from}
use Rattle.clause.proofs.Truth.{clause_true_lem, clause_false}
use Rattle.clause.proofs.Written.{read_end, size, words_append, words_length}
use Rattle.clause.proofs.Checked.{Lawful, lawful, lawful_written, clauses_append, lawful_before}
use Rattle.std.specs.Prelude.{Option, Some, None, Result, Ok, Err}
use Rattle.tester.specs.declared.NotTrue.{NotTrue}
use Rattle.tester.specs.Tested.{not_true, tested_values, value_in, values_from, scan, tested}

-- THE VALUES TELL THE REPLY: verdict 0 is all true, verdict 1 the clause of that number and place, verdict 2 a refusal of that number and place.
pub verdict_0 : (r : Result (Option NotTrue) Refusal) → (tested_values r).verdict ≡ 0 → r ≡ Ok None
verdict_0 (Ok None) e = refl
verdict_0 (Ok (Some x)) e = absurd (omega arith)
verdict_0 (Err x) e = absurd (omega arith)

pub verdict_1 : (r : Result (Option NotTrue) Refusal) → (tested_values r).verdict ≡ 1
    → r ≡ Ok (not_true (tested_values r).number (tested_values r).place)
verdict_1 (Ok None) e = absurd (omega arith)
verdict_1 (Ok (Some x)) e = refl
verdict_1 (Err x) e = absurd (omega arith)

pub verdict_2 : (r : Result (Option NotTrue) Refusal) → (tested_values r).verdict ≡ 2
    → (x : Refusal) × (r ≡ Err x) × ((tested_values r).number ≡ number_of x) × ((tested_values r).place ≡ place_of x)
verdict_2 (Ok None) e = absurd (omega arith)
verdict_2 (Ok (Some x)) e = absurd (omega arith)
verdict_2 (Err x) e = (x, refl, refl, refl)

-- CLAUSE k IS THE FIRST WITHOUT A TRUE LITERAL, and stands at p: behind the words of the clauses before it.
pub record FirstLacking (v : Values) (cs : List Clause) (k p : ℕ) : Type 0 where
  pub within : k < length cs
  pub earlier : EachTrue v (take k cs)
  pub lacking : ¬ ClauseTrue v (get_or cs k [])
  pub place : p ≡ length (words_of (take k cs))

-- Some clause is the first.
abbrev SomeLacking : Values → List Clause → Type 0
SomeLacking v cs = (k : ℕ) × (p : ℕ) × FirstLacking v cs k p

-- Every clause has a true literal, or there is a first one without.
true_or_lacking : (v : Values) (cs : List Clause) → EachTrue v cs ⊎ SomeLacking v cs
true_or_lacking v [] = inl tt
true_or_lacking v (c ∷ cs) = go (clause_true v c) refl (true_or_lacking v cs)
  where
    go : (b : Bool) → clause_true v c ≡ b → EachTrue v cs ⊎ SomeLacking v cs → EachTrue v (c ∷ cs) ⊎ SomeLacking v (c ∷ cs)
    go true e (inl h) = inl ((clause_true_lem v c).0 e, h)
    go true e (inr (k, p, x)) =
        inr (suc k, _, record { within = omega (arith, x.within); earlier = ((clause_true_lem v c).0 e, x.earlier); lacking = x.lacking; place = refl })
    go false e h =
        inr (0, _, record { within = omega arith; earlier = tt; lacking = λ x. true≢false (sym ((clause_true_lem v c).1 x) ∙ e); place = refl })

-- ---- The scan where all clauses are true, and where one is not

-- It says that all are.
scan_passes : (v : Values) (m at : ℕ) (cs : List Clause) → EachTrue v cs → scan v m at cs ≡ None
unfolding scan
scan_passes v m at [] h = refl
scan_passes v m at (c ∷ cs) h = rw ((clause_true_lem v c).1 h.0) (scan_passes v (suc m) (suc (at + length c)) cs h.1)

-- It stops at the first clause that is not true.
scan_stops : (v : Values) (m at : ℕ) (cs : List Clause) (k : ℕ) → k < length cs → EachTrue v (take k cs) → ¬ ClauseTrue v (get_or cs k [])
    → scan v m at cs ≡ not_true (m + k) (at + size (take k cs))
unfolding scan
scan_stops v m at [] k w h n = absurd (omega arith)
scan_stops v m at (c ∷ cs) zero w h n = rw (clause_false v c n) (ap₂ not_true (omega arith) (omega arith))
scan_stops v m at (c ∷ cs) (suc k) w h n =
    rw ((clause_true_lem v c).1 h.0)
    (scan_stops v (suc m) (suc (at + length c)) cs k (omega arith) h.1 n ∙ ap₂ not_true (omega arith) (omega arith))

-- The clause of a reply.
abbrev clause_in : Option NotTrue → NotTrue
clause_in None = record { clause = 0; at = 0 }
clause_in (Some x) = x

module _ (v : Values) (cs : List Clause) where
  scan_first : (k p : ℕ) → FirstLacking v cs k p → scan v 0 0 cs ≡ not_true k p
  scan_first k p x =
      scan_stops v 0 0 cs k x.within x.earlier x.lacking
      ∙ ap₂ not_true (omega arith) (omega (arith, x.place, words_length (take k cs)))

  all_true_iff : (scan v 0 0 cs ≡ None) ↔ EachTrue v cs
  all_true_iff = (λ e. ⊎_elim (λ h. h) (other e) (true_or_lacking v cs), scan_passes v 0 0 cs)
    where
      other : scan v 0 0 cs ≡ None → SomeLacking v cs → EachTrue v cs
      other e (k, p, x) = let f = scan_first k p x in let z : ◌≡◌ {A = ℕ} 0 1 = cc in absurd (omega arith)

  not_true_iff : (k p : ℕ) → (scan v 0 0 cs ≡ not_true k p) ↔ FirstLacking v cs k p
  not_true_iff k p = (λ e. ⊎_elim (other e) (same e) (true_or_lacking v cs), scan_first k p)
    where
      other : scan v 0 0 cs ≡ not_true k p → EachTrue v cs → FirstLacking v cs k p
      other e h = let f = scan_passes v 0 0 cs h in let z : ◌≡◌ {A = ℕ} 0 1 = cc in absurd (omega arith)

      same : scan v 0 0 cs ≡ not_true k p → SomeLacking v cs → FirstLacking v cs k p
      same e (i, q, x) =
          let f = scan_first i q x in
          let same_clause = sym f ∙ e in
          let g : i ≡ k = λ t. (clause_in (same_clause t)).clause in
          let h : q ≡ p = λ t. (clause_in (same_clause t)).at in
          subst₂ (FirstLacking v cs) g h x

-- ---- The reply, by what the two checks find

module _ (bs ws : List ℕ) where
  pub values_refuse : (x : Refusal) → values_from 1 0 bs ≡ Err x → Err x ≡ tested bs ws
  unfolding tested
  values_refuse x p = rw p

  pub list_refuses : (x : Refusal) → values_from 1 0 bs ≡ passed → list_from (length bs) 0 0 ws ≡ Err x → Err x ≡ tested bs ws
  unfolding tested
  list_refuses x p q = rw (p, q)

  pub both_pass : values_from 1 0 bs ≡ passed → list_from (length bs) 0 0 ws ≡ passed → Ok (scan (value_in bs) 0 0 (clauses_of ws)) ≡ tested bs ws
  unfolding tested
  both_pass p q = rw (p, q)

-- ---- The reply where nothing is refused

module _ (bs ws : List ℕ) (values_pass : values_from 1 0 bs ≡ passed) (list-passes : list_from (length bs) 0 0 ws ≡ passed) where
  lawful_list : Lawful 0 ws
  lawful_list = lawful (length bs) 0 0 ws list-passes

  reply : Ok (scan (value_in bs) 0 0 (clauses_of ws)) ≡ tested bs ws
  reply = both_pass bs ws values_pass list-passes

  ok_same : {o p : Option NotTrue} → ◌≡◌ {A = Result (Option NotTrue) Refusal} (Ok o) (Ok p) → o ≡ p
  ok_same e = cc

  -- ALL TRUE is the reply just where every clause has a true literal.
  pub all_true : (tested bs ws ≡ Ok None) ↔ EachTrue (value_in bs) (clauses_of ws)
  all_true =
      let says = all_true_iff (value_in bs) (clauses_of ws) in
      (λ e. says.0 (ok_same (reply ∙ e)), λ h. sym reply ∙ ap Ok (says.1 h))

  -- CLAUSE k AT p is the reply just where it is the first without a true literal, and stands at p.
  pub first_lacking : (k p : ℕ) → (tested bs ws ≡ Ok (not_true k p)) ↔ FirstLacking (value_in bs) (clauses_of ws) k p
  first_lacking k p =
      let says = not_true_iff (value_in bs) (clauses_of ws) k p in
      (λ e. says.0 (ok_same (reply ∙ e)), λ h. sym reply ∙ ap Ok (says.1 h))

  -- One of these two is the reply.
  pub one_of_two : (tested bs ws ≡ Ok None) ⊎ ((k : ℕ) × (p : ℕ) × (tested bs ws ≡ Ok (not_true k p)))
  one_of_two =
      ⊎_elim (λ h. inl (all_true.1 h)) (λ x. inr (x.0, x.1, (first_lacking x.0 x.1).1 x.2)) (true_or_lacking (value_in bs) (clauses_of ws))

  -- From its place on stand the words of that clause and of those behind it.
  pub stands : (k p : ℕ) → tested bs ws ≡ Ok (not_true k p) → drop p ws ≡ words_of (drop k (clauses_of ws))
  stands k p e = ap₂ drop ((first_lacking k p).0 e).place parts ∙ drop_at (words_of firsts) (words_of others) (length (words_of firsts)) refl
    where
      firsts : List Clause
      firsts = take k (clauses_of ws)

      others : List Clause
      others = drop k (clauses_of ws)

      parts : ws ≡ words_of firsts ++ words_of others
      parts = sym (lawful_written ws lawful_list) ∙ ap words_of (sym (take-append-drop k (clauses_of ws))) ∙ words_append firsts others

  -- AN END WORD WITH COUNT 0, with no false clause before it: the reply is the number of clauses before it, and its own place.
  pub empty_clause : (us ts : List ℕ) → ws ≡ us ++ (end_word 0 ∷ ts) → EachTrue (value_in bs) (clauses_of us)
      → tested bs ws ≡ Ok (not_true (length (clauses_of us)) (length us))
  empty_clause us ts e h = (first_lacking _ _).1 (rw parts first)
    where
      before : Lawful 0 us
      before = lawful_before 0 us ts (rw e at lawful_list)

      parts : clauses_of ws ≡ clauses_of us ++ ([] ∷ clauses_of ts)
      parts = ap clauses_of e ∙ clauses_append 0 us (end_word 0 ∷ ts) before ∙ ap (λ (cs : List Clause). clauses_of us ++ cs) (read_end (end_word 0) ts refl)

      firsts : take (length (clauses_of us)) (clauses_of us ++ ([] ∷ clauses_of ts)) ≡ clauses_of us
      firsts = take_at (clauses_of us) ([] ∷ clauses_of ts) (length (clauses_of us)) refl

      first : FirstLacking (value_in bs) (clauses_of us ++ ([] ∷ clauses_of ts)) (length (clauses_of us)) (length us)
      first =
          record {
            within = omega (arith, length-append (clauses_of us) ([] ∷ clauses_of ts));
            earlier = rw firsts h;
            lacking = rw (get_or_at (clauses_of us) [] (clauses_of ts) [] (length (clauses_of us)) refl) (λ x. x);
            place = rw (firsts, lawful_written us before);
          }
