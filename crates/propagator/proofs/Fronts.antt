-- THE CLAUSES AT THE FRONT of a list: the words up to a place between two clauses are a list that passes the check, with the clauses before that place, and clauses
-- of two literals are passed by their end words. What is settled from the front first comes to the same. Assumes nothing.
use mathlib.Core.Path.{◌≡◌, refl, sym, ap, subst, ◌∙◌}
use mathlib.Core.Logic.{inl, inr}
use mathlib.Core.List.{List, [], ◌∷◌, ◌++◌}
use Prim.Native.Nat.{ℕ, ◌+◌, ◌-◌, ◌≤◌, ◌<◌, min}
use native.Mathlib.Omega.{arith}
use lib.ListN.{length, get_or, take, drop, length-take, length-drop}
use lib.Seq.{length-take-le, get_or-drop, take_all, drop-drop}
use Rattle.word.specs.Word.{last_boolean, end_word}
use Rattle.clause.specs.Meaning.{Literal, Clause, clauses_of, words_of}
use Rattle.clause.proofs.Written.{LiteralsFit, Fit, read_written}
use Rattle.clause.proofs.Checked.{words_pass}
use Rattle.propagation.specs.Derived.{HasLiteral, HasClause, KnownIn}
use Rattle.propagation.specs.Propagated.{conflict, reached, propagated}
use Rattle.propagation.proofs.Laws.{reached_long, reached_legal}
use Rattle.propagation.proofs.Parts.{part_conflict, part_first}
use Rattle.propagator.specs.Pass.{ListPasses, Propagable, Split, Between}
use Rattle.propagator.proofs.Places.{words_before, within, fits_before, one_behind, split_start, split_next, has_before, listed_known}
use Rattle.propagator.proofs.EndWords.{ended_past}

-- ---- Past a clause that is known by its end word

pub between_start : (ws : List ℕ) → (n : ℕ) × ListPasses n ws → Between ws 0
between_start ws (n, listed) = ([], clauses_of ws, split_start ws n listed)

pub between_within : (ws : List ℕ) → (n : ℕ) × ListPasses n ws → (at : ℕ) → Between ws at → at ≤ length ws
between_within ws (n, listed) at (pre, post, s) = within ws n listed at pre post s

pub between_next : (ws : List ℕ) → (n : ℕ) × ListPasses n ws → (at : ℕ) → Between ws at → at + 2 < length ws → get_or ws (at + 2) 0 ≡ end_word 2 → Between ws (at + 3)
between_next ws (n, listed) at (pre, post, s) h e =
    let t = one_behind ws n listed at pre post s (omega arith) in
    let next = ended_past n ws listed at (pre, post, s) 2 h (omega (arith, e), omega (arith, e)) (at + 3) (omega arith) in (
      pre ++ (t.0 ∷ []),
      t.1,
      subst (λ (x : ℕ). Split ws x (pre ++ (t.0 ∷ [])) t.1) (sym next) (split_next ws n listed at pre t.0 t.1 (subst (Split ws at pre) t.2 s)),
    )

-- WHAT IS LEFT of a list from a place between two clauses
pub record Rest (ws rest : List ℕ) : Type 0 where
  pub shorter : length rest ≤ length ws
  pub left : rest ≡ drop (length ws - length rest) ws
  pub between : Between ws (length ws - length rest)

pub rest_next : (ws : List ℕ) → (n : ℕ) × ListPasses n ws → (rest : List ℕ) → Rest ws rest → 3 ≤ length rest → get_or rest 2 0 ≡ end_word 2
    → Rest ws (take (length rest - 3) (drop 3 rest))
rest_next ws p rest r h e =
    let k : ℕ = length ws - length rest in
    let to : length ws - length (take (length rest - 3) (drop 3 rest)) ≡ k + 3 = omega (arith, length-take (length rest - 3) (drop 3 rest), length-drop 3 rest, r.shorter) in
    let here : get_or ws (k + 2) 0 ≡ end_word 2 = sym (get_or-drop k ws 2 0) ∙ ap (λ (x : List ℕ). get_or x 2 0) (sym r.left) ∙ e in
    record {
      shorter = omega (arith, length-take (length rest - 3) (drop 3 rest), length-drop 3 rest, r.shorter);
      left =
          take_all (length rest - 3) (drop 3 rest) (omega (arith, length-drop 3 rest))
          ∙ ap (drop {A = ℕ} 3) r.left
          ∙ drop-drop 3 k ws
          ∙ ap (λ (x : ℕ). drop x ws) (sym to);
      between = subst (Between ws) (sym to) (between_next ws p k r.between (omega (arith, r.shorter)) here);
    }

-- ---- The part of the list

-- the Booleans of clauses that fit their words and are known
literals_known : (n : ℕ) (c : Clause) → LiteralsFit last_boolean c → ((l : Literal) → HasLiteral c l → (1 ≤ l.of) × (l.of ≤ n)) → LiteralsFit (min n last_boolean) c
literals_known n [] f k = tt
literals_known n (l ∷ c) f k = ((f.0.0, omega (arith, f.0.1, (k l (inl refl)).1)), literals_known n c f.1 (λ x m. k x (inr m)))

fit_known : (n : ℕ) (cs : List Clause) → Fit last_boolean cs → KnownIn n cs → Fit (min n last_boolean) cs
fit_known n [] f k = tt
fit_known n (c ∷ cs) f k = ((literals_known n c f.0.0 (k c (inl refl)), f.0.1), fit_known n cs f.1 (λ d m. k d (inr m)))

module _ (ws : List ℕ) (n : ℕ) (listed : ListPasses n ws) (at : ℕ) (b : Between ws at) where
  fit : Fit last_boolean b.0
  fit = fits_before ws n listed at b.0 b.1 b.2

  words : take at ws ≡ words_of b.0
  words = words_before ws n listed at b.0 b.1 b.2

  in_list : (c : Clause) → HasClause b.0 c → HasClause (clauses_of ws) c
  in_list c m = subst (λ (x : List Clause). HasClause x c) (sym b.2.clauses) (has_before b.0 b.1 c m)

  pub front_clauses : clauses_of (take at ws) ≡ b.0
  front_clauses = ap clauses_of words ∙ read_written last_boolean (omega arith) b.0 fit

  pub front_passes : ListPasses n (take at ws)
  front_passes =
      subst (ListPasses n) (sym words)
      (words_pass (min n last_boolean) n (omega arith) (omega arith) b.0 0 (fit_known n b.0 fit (λ c m. listed_known n ws listed c (in_list c m))))

  front_part : (c : Clause) → HasClause (clauses_of (take at ws)) c → HasClause (clauses_of ws) c
  front_part c m = in_list c (subst (λ (x : List Clause). HasClause x c) front_clauses m)

-- ---- The front first

module _ (ws bs : List ℕ) (ready : Propagable ws bs) (at : ℕ) (b : Between ws at) where
  pub front_ready : Propagable (take at ws) bs
  front_ready = (front_passes ws (length bs) ready.0 at b, ready.1)

  pub front_long : at ≡ length (take at ws)
  front_long = sym (length-take-le at ws (between_within ws (length bs, ready.0) at b))

  known : KnownIn (length bs) (clauses_of ws)
  known = listed_known (length bs) ws ready.0

  -- the passes over the front came to this
  pub front_conflict : conflict ≡ propagated (clauses_of (take at ws)) bs → conflict ≡ propagated (clauses_of ws) bs
  front_conflict ran =
      sym (part_conflict (clauses_of (take at ws)) (clauses_of ws) (front_part ws (length bs) ready.0 at b) bs known ready.1 (sym ran))

  module _ (after : List ℕ) (ran : reached after ≡ propagated (clauses_of (take at ws)) bs) where
    known_front : KnownIn (length bs) (clauses_of (take at ws))
    known_front c m = known c (front_part ws (length bs) ready.0 at b c m)

    pub front_ready_on : Propagable ws after
    front_ready_on = (
      subst (λ (n : ℕ). ListPasses n ws) (sym (reached_long (clauses_of (take at ws)) bs known_front ready.1 after (sym ran))) ready.0,
      reached_legal (clauses_of (take at ws)) bs known_front ready.1 after (sym ran),
    )

    pub front_first : propagated (clauses_of ws) after ≡ propagated (clauses_of ws) bs
    front_first = part_first (clauses_of (take at ws)) (clauses_of ws) (front_part ws (length bs) ready.0 at b) bs known ready.1 after (sym ran)
