-- THE PLACE OF A REFUSAL, byte by byte: every state that a reader can be in has a text that completes it, so what comes before the place can become legal, and
-- what comes with it cannot. Assumes nothing.
use mathlib.Core.Path.{◌≡◌, refl, sym, ap, subst, ◌∙◌}
use mathlib.Core.Bool.{Bool, true, false, cond}
use mathlib.Core.List.{List, [], ◌∷◌, ◌++◌}
use Prim.Native.Nat.{ℕ, zero, suc, ◌≤◌, ◌<◌, zero-le, suc-le-suc}
use native.Mathlib.Nat.{le_of_suc-le-suc, not-suc-le-zero}
use lib.ListN.{length, take}
use borrow.Author.Tests.{le-leb}
use Rattle.word.specs.Word.{literal_word, end_word}
use Rattle.dimacs_text.specs.Claim.{Verdict, words, wrong}
use Rattle.dimacs_text.specs.Machine.{GoodState, count, before, after, after_p, after_cnf, after_first, Role, first, second, literal, State, gap, comment, seen_p, seen_c, seen_cn, seen_cnf, spaces, num, minus, closed, Next, bad, on, put, step, final, one_later, with_word, go_on, run}
use Rattle.dimacs_text.proofs.Fit.{Keeps, keeps}
use Rattle.dimacs_text.proofs.Machine.{no_wrong}
use Rattle.dimacs_text.proofs.Accepts.{on_reads, put_reads, step_begin, step_close}
use Rattle.dimacs_text.proofs.Sound.{later_words, word_words}

-- ---- Every state can be completed
abbrev Done : State → Type 0
Done s = (u ws : List ℕ) × (run s u ≡ words ws)

abbrev zeros : ℕ → List ℕ
zeros zero = []
zeros (suc k) = 32 ∷ 48 ∷ zeros k

zeros_done : (n k : ℕ) → (ws : List ℕ) × (run (closed (count n k 0)) (zeros k) ≡ words ws)
unfolding step run final
zeros_done n zero = ([], refl)
zeros_done n (suc k) =
    let i = zeros_done n k in (
      end_word 0 ∷ i.0,
      on_reads (closed (count n (suc k) 0)) (gap (after (count n (suc k) 0)) false) 32 (48 ∷ zeros k) (end_word 0 ∷ i.0) refl
          (put_reads (gap (after (count n (suc k) 0)) false) (closed (count n k 0)) 48 (end_word 0) (zeros k) i.0 (step_close n k 0 false) i.1),
    )

gap_done : (n k l : ℕ) (f : Bool) → Done (gap (after (count n k l)) f)
unfolding step run final
gap_done n zero l f = ([], [], refl)
gap_done n (suc k) l f =
    let i = zeros_done n k in
    (48 ∷ zeros k, end_word l ∷ i.0, put_reads (gap (after (count n (suc k) l)) f) (closed (count n k 0)) 48 (end_word l) (zeros k) i.0 (step_close n k l f) i.1)

step_done : (s s' : State) (b : ℕ) → step s b ≡ on s' → Done s' → Done s
step_done s s' b e d = (b ∷ d.0, d.1, on_reads s s' b d.0 d.1 e d.2)

put_done : (s s' : State) (b w : ℕ) → step s b ≡ put s' w → Done s' → Done s
put_done s s' b w e d = (b ∷ d.0, w ∷ d.1, put_reads s s' b w d.0 d.1 e d.2)

lead_done : (f : Bool) → Done (gap before f)
unfolding step run final
lead_done f = step_done (gap before f) seen_p 112 (step_begin before f 112 refl refl) (32 ∷ 99 ∷ 110 ∷ 102 ∷ 32 ∷ 48 ∷ 32 ∷ 48 ∷ [], [], refl)

num_done : (r : Role) (v : ℕ) → Done (num r v)
unfolding step run final
num_done first v = (32 ∷ 48 ∷ [], [], refl)
num_done (second n) v = step_done (num (second n) v) (gap (after (count n v 0)) false) 32 refl (gap_done n v 0 false)
num_done (literal w says) v =
    put_done (num (literal w says) v) (gap (after (count w.most w.left (suc w.literals))) false) 32 (literal_word says v) refl (gap_done w.most w.left (suc w.literals) false)

completes : (s : State) → GoodState s → Done s
unfolding step run final
completes (gap before f) g = lead_done f
completes (gap (after w) f) g = gap_done w.most w.left w.literals f
completes (comment before) g = step_done (comment before) (gap before true) 10 refl (lead_done true)
completes (comment (after w)) g = step_done (comment (after w)) (gap (after w) true) 10 refl (gap_done w.most w.left w.literals true)
completes seen_p g = (32 ∷ 99 ∷ 110 ∷ 102 ∷ 32 ∷ 48 ∷ 32 ∷ 48 ∷ [], [], refl)
completes seen_c g = (110 ∷ 102 ∷ 32 ∷ 48 ∷ 32 ∷ 48 ∷ [], [], refl)
completes seen_cn g = (102 ∷ 32 ∷ 48 ∷ 32 ∷ 48 ∷ [], [], refl)
completes seen_cnf g = (32 ∷ 48 ∷ 32 ∷ 48 ∷ [], [], refl)
completes (spaces after_p) g = (99 ∷ 110 ∷ 102 ∷ 32 ∷ 48 ∷ 32 ∷ 48 ∷ [], [], refl)
completes (spaces after_cnf) g = (48 ∷ 32 ∷ 48 ∷ [], [], refl)
completes (spaces (after_first n)) g = (48 ∷ [], [], refl)
completes (num r v) g = num_done r v
completes (minus w) g = step_done (minus w) (num (literal w false) 1) 49 (rw (le-leb 1 w.most g.1)) (num_done (literal w false) 1)
completes (closed w) g = step_done (closed w) (gap (after w) false) 32 refl (gap_done w.most w.left w.literals false)

-- ---- The place
pub record Place (s : State) (t : List ℕ) (k : ℕ) : Type 0 where
  pub within : k ≤ length t
  pub possible : (u ws : List ℕ) × (run s (take k t ++ u) ≡ words ws)
  pub hopeless : k < length t → (u ws : List ℕ) → run s (take (suc k) t ++ u) ≡ words ws → ⊥

later_wrong : (v : Verdict) (k : ℕ) → one_later v ≡ wrong k → (j : ℕ) × (k ≡ suc j) × (v ≡ wrong j)
later_wrong (words ws) k e = no_wrong k ws (sym e)
later_wrong (wrong j) k e = (j, cc, refl)

word_wrong : (w : ℕ) (v : Verdict) (k : ℕ) → with_word w v ≡ wrong k → v ≡ wrong k
word_wrong w (words ws) k e = no_wrong k (w ∷ ws) (sym e)
word_wrong w (wrong j) k e = e

place_on : (s s' : State) (b : ℕ) (t : List ℕ) (j : ℕ) → step s b ≡ on s' → Place s' t j → Place s (b ∷ t) (suc j)
unfolding run
place_on s s' b t j e p = record {
  within = suc-le-suc p.within;
  possible = let q = p.possible in (q.0, q.1, on_reads s s' b (take j t ++ q.0) q.1 e q.2);
  hopeless = λ h u ws z. p.hopeless (le_of_suc-le-suc h) u ws (later_words _ ws (ap (λ (n : Next). go_on n (λ s''. run s'' (take (suc j) t ++ u))) (sym e) ∙ z));
}

place_put : (s s' : State) (b w : ℕ) (t : List ℕ) (j : ℕ) → step s b ≡ put s' w → Place s' t j → Place s (b ∷ t) (suc j)
unfolding run
place_put s s' b w t j e p = record {
  within = suc-le-suc p.within;
  possible = let q = p.possible in (q.0, w ∷ q.1, put_reads s s' b w (take j t ++ q.0) q.1 e q.2);
  hopeless = λ h u ws z.
      let y = word_words w (one_later (run s' (take (suc j) t ++ u))) ws (ap (λ (n : Next). go_on n (λ s''. run s'' (take (suc j) t ++ u))) (sym e) ∙ z) in
      p.hopeless (le_of_suc-le-suc h) u y.0 (later_words _ y.0 y.2);
}

pub wrong_place : (t : List ℕ) (s : State) (k : ℕ) → GoodState s → run s t ≡ wrong k → Place s t k
unfolding run
wrong_place [] s k g h = go (final s) refl h
  where
    go : (p : Bool) → final s ≡ p → cond p (words []) (wrong 0) ≡ wrong k → Place s [] k
    go true e z = no_wrong k [] (sym z)
    go false e z =
        let y : 0 ≡ k = cc in
        subst (Place s []) y (record { within = zero-le; possible = completes s g; hopeless = λ q. absurd (not-suc-le-zero q) })
wrong_place (b ∷ t) s k g h = go (λ s' j. wrong_place t s' j) (step s b) refl (keeps s b g) h
  where
    go : ((s' : State) (j : ℕ) → GoodState s' → run s' t ≡ wrong j → Place s' t j) → (n : Next) → step s b ≡ n → Keeps n → go_on n (λ s'. run s' t) ≡ wrong k → Place s (b ∷ t) k
    go rec bad e i z =
        let y : 0 ≡ k = cc in
        subst (Place s (b ∷ t)) y
        (record {
          within = zero-le;
          possible = completes s g;
          hopeless = λ q u ws x. no_wrong 0 ws (ap (λ (n : Next). go_on n (λ s''. run s'' u)) (sym e) ∙ x);
        })
    go rec (on s') e i z =
        let y = later_wrong (run s' t) k z in
        subst (Place s (b ∷ t)) (sym y.1) (place_on s s' b t y.0 e (rec s' y.0 i y.2))
    go rec (put s' w) e i z =
        let y = later_wrong (run s' t) k (word_wrong w (one_later (run s' t)) k z) in
        subst (Place s (b ∷ t)) (sym y.1) (place_put s s' b w t y.0 e (rec s' y.0 i.0 y.2))
