-- A CLAUSE KNOWN BY ITS END WORD: in a list that passes the check, an end word k places behind a clause's beginning whose count is k ends this clause, so that the
-- words before it are its literals and the next clause begins behind it. Assumes nothing.
use mathlib.Core.Path.{◌≡◌, sym, ap, subst, ◌∙◌}
use mathlib.Core.Logic.{inl, inr}
use mathlib.Core.List.{List, [], ◌∷◌}
use Prim.Native.Nat.{ℕ, zero, suc, ◌+◌, ◌≤◌, ◌<◌}
use native.Mathlib.Nat.{not-suc-le-zero, le_of_suc-le-suc}
use native.Mathlib.Omega.{arith}
use lib.ListN.{length, get_or, drop, length-drop}
use lib.Seq.{get_or-drop}
use Rattle.word.specs.Word.{kind, payload, last_boolean}
use Rattle.clause.specs.Meaning.{words_of}
use Rattle.clause.proofs.Checked.{words_pass, Lawful, lawful}
use Rattle.tester.specs.Past.{past_end}
use Rattle.tester.proofs.Scan.{past_here, past_on}
use Rattle.propagator.specs.Pass.{LiteralWords, ListPasses, Between}
use Rattle.propagator.proofs.Looks.{literal_at}
use Rattle.propagator.proofs.Places.{words_behind, fits_behind}

-- ---- Over the words from a clause's beginning on, where l literals stand before them

-- no end word counts more literals than stand before it
count_within : (k l : ℕ) (us : List ℕ) → Lawful l us → k < length us → kind (get_or us k 0) ≡ 3 → payload (get_or us k 0) ≤ l + k
count_within k l [] h i e = absurd (not-suc-le-zero i)
count_within zero l (u ∷ us) (inl h) i e = omega (arith, h.1)
count_within zero l (u ∷ us) (inr h) i e = absurd (omega (arith, h.0, e))
count_within (suc k) l (u ∷ us) (inl h) i e = let t = count_within k 0 us h.2 (le_of_suc-le-suc i) e in omega arith
count_within (suc k) l (u ∷ us) (inr h) i e = let t = count_within k (suc l) us h.2 (le_of_suc-le-suc i) e in omega arith

-- one that counts all of them ends the first clause
first_ended : (k l : ℕ) (us : List ℕ) → Lawful l us → k < length us → kind (get_or us k 0) ≡ 3 → payload (get_or us k 0) ≡ l + k → (j : ℕ) → j < k → kind (get_or us j 0) ≡ 2
first_ended k l [] h i e f j m = absurd (not-suc-le-zero i)
first_ended zero l (u ∷ us) h i e f j m = absurd (not-suc-le-zero m)
first_ended (suc k) l (u ∷ us) (inl h) i e f j m =
    let t = count_within k 0 us h.2 (le_of_suc-le-suc i) e in
    absurd (omega arith)
first_ended (suc k) l (u ∷ us) (inr h) i e f zero m = h.0
first_ended (suc k) l (u ∷ us) (inr h) i e f (suc j) m =
    let c : payload (get_or us k 0) ≡ suc l + k = omega (arith, f) in
    first_ended k (suc l) us h.2 (le_of_suc-le-suc i) e c j (le_of_suc-le-suc m)

-- ---- At a place between two clauses

-- past an end word behind k others
past_after : (ws : List ℕ) (k at : ℕ) → at + k < length ws → ((j : ℕ) → j < k → kind (get_or ws (at + j) 0) ≡ 2) → kind (get_or ws (at + k) 0) ≡ 3
    → past_end at (drop at ws) ≡ at + suc k
past_after ws zero at h f e =
    let z : at + 0 ≡ at = omega arith in
    past_here ws at (omega arith) (subst (λ (x : ℕ). kind (get_or ws x 0) ≡ 3) z e) ∙ omega arith
past_after ws (suc k) at h f e =
    let z : at + 0 ≡ at = omega arith in
    let o : at + suc k ≡ at + 1 + k = omega arith in
    past_on ws at (omega arith) (λ q. omega (arith, q, subst (λ (x : ℕ). kind (get_or ws x 0) ≡ 2) z (f 0 (omega arith))))
    ∙ past_after ws k (at + 1) (omega arith) (λ j m. next j (f (suc j) (omega arith))) (subst (λ (x : ℕ). kind (get_or ws x 0) ≡ 3) o e)
    ∙ omega arith
  where
    next : (j : ℕ) → kind (get_or ws (at + suc j) 0) ≡ 2 → kind (get_or ws (at + 1 + j) 0) ≡ 2
    next j m = let o : at + suc j ≡ at + 1 + j = omega arith in subst (λ (x : ℕ). kind (get_or ws x 0) ≡ 2) o m

module _ (n : ℕ) (ws : List ℕ) (listed : ListPasses n ws) (at : ℕ) (b : Between ws at) where
  lawful_behind : Lawful 0 (drop at ws)
  lawful_behind =
      subst (Lawful 0) (sym (words_behind ws n listed at b.0 b.1 b.2))
      (lawful last_boolean 0 0 (words_of b.1) (words_pass last_boolean last_boolean (omega arith) (omega arith) b.1 0 (fits_behind ws n listed at b.0 b.1 b.2)))

  module _ (k : ℕ) (h : at + k < length ws) (ends : (kind (get_or ws (at + k) 0) ≡ 3) × (payload (get_or ws (at + k) 0) ≡ k)) where
    words_two : (j : ℕ) → j < k → kind (get_or ws (at + j) 0) ≡ 2
    words_two j m =
        ap kind (sym (get_or-drop at ws j 0))
        ∙ first_ended k 0 (drop at ws) lawful_behind (omega (arith, length-drop at ws)) (ap kind (get_or-drop at ws k 0) ∙ ends.0)
        (ap payload (get_or-drop at ws k 0) ∙ ends.1 ∙ omega arith) j m

    pub ended_words : LiteralWords n ws at k
    ended_words = record { within = omega arith; each = λ j m. literal_at n ws listed (at + j) (omega arith) (λ q. omega (arith, q, words_two j m)) }

    pub ended_past : (to : ℕ) → to ≡ at + suc k → to ≡ past_end at (drop at ws)
    ended_past to e = e ∙ sym (past_after ws k at h words_two ends.0)
