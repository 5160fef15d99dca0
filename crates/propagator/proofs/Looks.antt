-- THE TURNS OF A LOOK AT A CLAUSE: what the status is from one place on, and what is found so far. Assumes nothing.
use mathlib.Core.Path.{◌≡◌, refl, sym, ap, subst, ◌∙◌}
use mathlib.Core.Logic.{◌⊎◌, inl, inr, ⊎_elim}
use mathlib.Core.List.{List, [], ◌∷◌}
use mathlib.Core.Bool.{Bool, true, false, cond, ◌&&◌}
use Prim.Native.Nat.{ℕ, zero, suc, ◌+◌, ◌≤◌, ◌<◌}
use native.Mathlib.Nat.{not-suc-le-zero, le_of_suc-le-suc}
use native.Mathlib.Numerals.{add-one}
use native.Mathlib.Omega.{arith}
use lib.Dec.{eqb, leb}
use lib.ListN.{length, get_or, drop}
use lib.Seq.{drop-cons}
use borrow.Author.Tests.{eq-eqb, ne_eqb, eqb-true, eqb-false}
use Rattle.word.specs.Word.{kind, payload, boolean}
use Rattle.word.proofs.Tests.{between_is}
use Rattle.refusal.specs.Table.{and_then, unless, Checked, passed}
use Rattle.std.specs.Prelude.{Err}
use Rattle.refusal.specs.declared.Refusal.TheVariants.{ClauseWord, UnknownBoolean, LiteralCount}
use Rattle.refusal.proofs.Passes.{refused_fails, both_passed, unless_passed}
use Rattle.clause.specs.Meaning.{literal_of}
use Rattle.clause.specs.Check.{list_from}
use Rattle.tester.specs.Past.{past_end}
use Rattle.tester.proofs.Scan.{past_on}
use Rattle.propagation.specs.Propagated.{Status, neither, unit, falsified, met}
use Rattle.propagator.specs.Pass.{so_far, LiteralWord, Found, LiteralWords, looked, Met, Asks, Ended, Sees, ListPasses}
use Rattle.propagator.proofs.Meets.{so_far-literal, neither_met}

-- ---- A word of a list that passes

abbrev pub LawfulWord : ℕ → ℕ → Type 0
LawfulWord n w = (kind w ≡ 3) ⊎ LiteralWord n w

pub listed_at : (n p l : ℕ) (ws : List ℕ) → list_from n p l ws ≡ passed → (i : ℕ) → i < length ws → LawfulWord n (get_or ws i 0)
unfolding list_from
listed_at n p l [] e i h = absurd (not-suc-le-zero h)
listed_at n p l (w ∷ ws) e i h = go (eqb (kind w) 3) refl (eqb (kind w) 2) refl (λ k f j. listed_at n (suc p) k ws f j) e i h
  where
    ends : Checked
    ends = and_then (unless (eqb (payload w) l) (LiteralCount p)) (list_from n (suc p) 0 ws)

    goes : Checked
    goes = and_then (unless (leb 1 (boolean w) && leb (boolean w) n) (UnknownBoolean p)) (list_from n (suc p) (suc l) ws)

    go : (x : Bool) → eqb (kind w) 3 ≡ x → (y : Bool) → eqb (kind w) 2 ≡ y
        → ((k : ℕ) → list_from n (suc p) k ws ≡ passed → (j : ℕ) → j < length ws → LawfulWord n (get_or ws j 0))
        → cond x ends (cond y goes (Err (ClauseWord p))) ≡ passed → (i : ℕ) → i < suc (length ws) → LawfulWord n (get_or (w ∷ ws) i 0)
    go true f y g more e zero h = inl (eqb-true (kind w) 3 f)
    go true f y g more e (suc i) h = more 0 (both_passed (unless (eqb (payload w) l) (LiteralCount p)) (list_from n (suc p) 0 ws) e).1 i (le_of_suc-le-suc h)
    go false f true g more e zero h =
        let known : Bool = leb 1 (boolean w) && leb (boolean w) n in
        let k = both_passed (unless known (UnknownBoolean p)) (list_from n (suc p) (suc l) ws) e in
        let b = between_is 1 (boolean w) n (unless_passed known (UnknownBoolean p) k.0) in
        inr (eqb-true (kind w) 2 g, b.0, b.1)
    go false f true g more e (suc i) h =
        let known : Bool = leb 1 (boolean w) && leb (boolean w) n in
        more (suc l) (both_passed (unless known (UnknownBoolean p)) (list_from n (suc p) (suc l) ws) e).1 i (le_of_suc-le-suc h)
    go false f false g more e i h = refused_fails (ClauseWord p) e

-- a word that is no end word
pub literal_at : (n : ℕ) (ws : List ℕ) → ListPasses n ws → (i : ℕ) → i < length ws → ¬ (kind (get_or ws i 0) ≡ 3) → LiteralWord n (get_or ws i 0)
literal_at n ws e i h d = ⊎_elim (λ q. absurd (d q)) (λ q. q) (listed_at n 0 0 ws e i h)

-- ---- An end word to come

pub ended_in : (ws : List ℕ) (at : ℕ) → Ended ws at → at < length ws
ended_in ws at e = omega (arith, e.1, e.2)

pub ended_on : (ws : List ℕ) (at : ℕ) → Ended ws at → ¬ (kind (get_or ws at 0) ≡ 3) → Ended ws (at + 1)
ended_on ws at (z, h, k, f) d = (z, go (eqb at z) refl, k, f)
  where
    go : (x : Bool) → eqb at z ≡ x → at + 1 ≤ z
    go true g = absurd (d (ap (λ (y : ℕ). kind (get_or ws y 0)) (eqb-true at z g) ∙ f))
    go false g = let u = eqb-false at z g in omega arith

-- ---- From one place on

-- nothing is left to ask for: so it stays
neither_looked : (bs ws : List ℕ) → looked bs neither ws ≡ neither
unfolding looked
neither_looked bs [] = refl
neither_looked bs (w ∷ ws) = go (eqb (kind w) 3) (ap (λ (s : Status). looked bs s ws) (neither_met bs (literal_of w)) ∙ neither_looked bs ws)
  where
    go : (x : Bool) → looked bs (met bs (literal_of w) neither) ws ≡ neither → cond x neither (looked bs (met bs (literal_of w) neither) ws) ≡ neither
    go true e = refl
    go false e = e

module _ (bs ws : List ℕ) (at : ℕ) (s : Status) (h : at < length ws) where
  look_end : kind (get_or ws at 0) ≡ 3 → looked bs s (drop at ws) ≡ s
  unfolding looked
  look_end e = rw (drop-cons ws at 0 h, eq-eqb (kind (get_or ws at 0)) 3 e)

  look_literal : kind (get_or ws at 0) ≡ 2 → looked bs s (drop at ws) ≡ looked bs (met bs (literal_of (get_or ws at 0)) s) (drop (at + 1) ws)
  unfolding looked
  look_literal e = rw (drop-cons ws at 0 h, ne_eqb (kind (get_or ws at 0)) 3 (λ q. omega (arith, e, q)), add-one)

-- ---- What is found so far

pub met_start : (bs ws : List ℕ) (from : ℕ) → Met bs ws from from 0
met_start bs ws from = record { same = refl; literal = λ n. absurd (n refl) }

module _ (bs ws : List ℕ) (from at found : ℕ) (m : Met bs ws from at found) where
  -- one literal more
  pub met_on : (next to : ℕ) → at < length ws → kind (get_or ws at 0) ≡ 2 → to ≡ at + 1
      → (so_far next ≡ met bs (literal_of (get_or ws at 0)) (so_far found)) × Found (length bs) next → Met bs ws from to next
  met_on next to h k e f =
      record {
        same =
            m.same ∙ look_literal bs ws at (so_far found) h k
            ∙ ap (λ (s : Status). looked bs s (drop (at + 1) ws)) (sym f.0)
            ∙ ap (λ (x : ℕ). looked bs (so_far next) (drop x ws)) (sym e);
        literal = f.1;
      }

  -- nothing is left to ask for: the words from here on make no difference
  pub met_neither : (to : ℕ) → found ≡ 0xC0000000 → Met bs ws from to found
  met_neither to e =
      record {
        same =
            m.same ∙ ap (λ (x : ℕ). looked bs (so_far x) (drop at ws)) e
            ∙ neither_looked bs (drop at ws)
            ∙ sym (ap (λ (x : ℕ). looked bs (so_far x) (drop to ws)) e ∙ neither_looked bs (drop to ws));
        literal = m.literal;
      }

  pub met_asks_neither : found ≡ 0xC0000000 → Asks bs ws from found
  met_asks_neither e =
      record {
        asked = ap so_far e ∙ sym (m.same ∙ ap (λ (x : ℕ). looked bs (so_far x) (drop at ws)) e ∙ neither_looked bs (drop at ws));
        literal = m.literal;
      }

  -- at the end word
  pub met_asks : at < length ws → kind (get_or ws at 0) ≡ 3 → Asks bs ws from found
  met_asks h e = record { asked = sym (m.same ∙ look_end bs ws at (so_far found) h e); literal = m.literal }

-- the first of some literals
pub first_literal : (n : ℕ) (ws : List ℕ) (at k : ℕ) → LiteralWords n ws at (suc k) → LiteralWord n (get_or ws at 0)
first_literal n ws at k l =
    let e : at + 0 ≡ at = omega arith in
    subst (λ (x : ℕ). LiteralWord n (get_or ws x 0)) e (l.each 0 (omega arith))

-- ---- A look

-- UNDER WAY from `from` to `at`: the end word is still to come
pub record Looking (bs ws : List ℕ) (from found at : ℕ) : Type 0 where
  pub met : Met bs ws from at found
  pub ended : Ended ws at
  pub past : past_end at (drop at ws) ≡ past_end from (drop from ws)

pub looking_start : (bs ws : List ℕ) (from : ℕ) → Ended ws from → Looking bs ws from 0 from
looking_start bs ws from e = record { met = met_start bs ws from; ended = e; past = refl }

module _ (bs ws : List ℕ) (from found at : ℕ) (l : Looking bs ws from found at) where
  pub looking_in : at < length ws
  looking_in = ended_in ws at l.ended

  pub looking_done : kind (get_or ws at 0) ≡ 3 → Sees bs ws from found at
  looking_done e = record { asks = met_asks bs ws from at found l.met looking_in e; ended = l.ended; past = l.past }

  -- one literal more
  module _ (listed : ListPasses (length bs) ws) (d : ¬ (kind (get_or ws at 0) ≡ 3)) where
    pub looking_word : LiteralWord (length bs) (get_or ws at 0)
    looking_word = literal_at (length bs) ws listed at looking_in d

    module _ (next : ℕ) (f : (so_far next ≡ met bs (literal_of (get_or ws at 0)) (so_far found)) × Found (length bs) next) where
      more : Met bs ws from (at + 1) next
      more = met_on bs ws from at found l.met next (at + 1) looking_in looking_word.0 refl f

      pub looking_neither : next ≡ 0xC0000000 → Sees bs ws from next at
      looking_neither q = record { asks = met_asks_neither bs ws from (at + 1) next more q; ended = l.ended; past = l.past }

      pub looking_on : Looking bs ws from next (at + 1)
      looking_on = record { met = more; ended = ended_on ws at l.ended d; past = sym (past_on ws at looking_in d) ∙ l.past }

-- what is asked for, case by case
module _ (bs ws : List ℕ) (from found : ℕ) (a : Asks bs ws from found) where
  pub asks_neither : found ≡ 0xC0000000 → looked bs falsified (drop from ws) ≡ neither
  asks_neither e = sym a.asked ∙ ap so_far e

  pub asks_falsified : found ≡ 0 → looked bs falsified (drop from ws) ≡ falsified
  asks_falsified e = sym a.asked ∙ ap so_far e

  pub asks_unit : ¬ (found ≡ 0) → ¬ (found ≡ 0xC0000000) → looked bs falsified (drop from ws) ≡ unit (literal_of found)
  asks_unit d e = sym a.asked ∙ so_far-literal found (a.literal d e).0
