-- THE CHECK OF A CLAUSE LIST, both ways: the words of clauses whose numbers fit pass it, and a list that passes is lawful word by word. A lawful list is
-- the words of its clauses, whose numbers fit, and the clauses of words behind it follow its own. Assumes nothing.
use mathlib.Core.Path.{◌≡◌, refl, sym, ap, ap₂, subst, ◌∙◌}
use mathlib.Core.Logic.{◌⊎◌, inl, inr}
use mathlib.Core.Bool.{Bool, true, false, cond, ◌&&◌}
use mathlib.Core.List.{List, [], ◌∷◌, ◌++◌}
use Prim.Native.Nat.{ℕ, suc, ◌+◌, ◌≤◌, ◌<◌}
use native.Mathlib.Omega.{arith}
use lib.Dec.{eqb, leb}
use lib.ListN.{length}
use borrow.Author.Tests.{eqb-true, eq-eqb, ne_eqb, le-leb}
use Rattle.word.specs.Word.{kind, payload, boolean, last_boolean, end_word, last_count}
use Rattle.refusal.specs.Table.{and_then, unless}
use Rattle.refusal.specs.declared.Refusal.TheVariants.{ClauseWord, UnknownBoolean, LiteralCount, OpenClause}
use Rattle.refusal.specs.Table.{Checked}
use Rattle.std.specs.Prelude.{Err}
use Rattle.refusal.specs.Table.{passed}
use Rattle.word.proofs.Tests.{between_is}
use Rattle.refusal.proofs.Passes.{refused_fails, both_passed, unless_passed}
use Rattle.clause.specs.Meaning.{Clause, Literal, literal_of, joined, clauses_of, word_of, closed, words_of}
use Rattle.clause.specs.Check.{list_from}
use Rattle.clause.proofs.Written.{LiteralsFit, Fit, literal_word_lem, word_is, end_word_lem, read_end, read_literal}

-- ---- What is written passes

-- a list over the Booleans from 1 to m, where those up to n may occur
module _ (m n : ℕ) (fits : m ≤ last_boolean) (allowed : m ≤ n) where
  literal_passes : (w at k : ℕ) (ws : List ℕ) → kind w ≡ 2 → 1 ≤ boolean w → boolean w ≤ n → list_from n at k (w ∷ ws) ≡ list_from n (suc at) (suc k) ws
  unfolding list_from
  literal_passes w at k ws e p q = rw (ne_eqb (kind w) 3 (λ f. omega arith), eq-eqb (kind w) 2 e, le-leb 1 (boolean w) p, le-leb (boolean w) n q)

  end_passes : (w at k : ℕ) (ws : List ℕ) → kind w ≡ 3 → payload w ≡ k → list_from n at k (w ∷ ws) ≡ list_from n (suc at) 0 ws
  unfolding list_from
  end_passes w at k ws e f = rw (eq-eqb (kind w) 3 e, eq-eqb (payload w) k f)

  literals_pass : (c : Clause) (at k : ℕ) (ws : List ℕ) → LiteralsFit m c → list_from n at k (closed c ws) ≡ list_from n (at + length c) (k + length c) ws
  literals_pass [] at k ws h = ap₂ (λ (i j : ℕ). list_from n i j ws) (omega arith) (omega arith)
  literals_pass (l ∷ c) at k ws h =
      let t = literal_word_lem l.says l.of (omega (arith, h.0.1)) in
      let b : boolean (word_of l) ≡ l.of = ap (λ (x : Literal). x.of) t.1 in
      literal_passes (word_of l) at k (closed c ws) t.0 (omega (arith, h.0.0)) (omega (arith, h.0.1))
      ∙ literals_pass c (suc at) (suc k) ws h.1
      ∙ ap₂ (λ (i j : ℕ). list_from n i j ws) (omega arith) (omega arith)

  pub words_pass : (cs : List Clause) (at : ℕ) → Fit m cs → list_from n at 0 (words_of cs) ≡ passed
  unfolding list_from
  words_pass [] at h = refl
  words_pass (c ∷ cs) at h =
      let t = end_word_lem (length c) h.0.1 in
      literals_pass c at 0 (end_word (length c) ∷ words_of cs) h.0.0
      ∙ end_passes (end_word (length c)) (at + length c) (0 + length c) (words_of cs) t.0 (omega (arith, t.1))
      ∙ words_pass cs (suc (at + length c)) h.1

-- ---- What passes, word by word

-- the words, where l literals stand since the last end word
abbrev pub Lawful : ℕ → List ℕ → Type 0
Lawful l [] = l ≡ 0
Lawful l (w ∷ ws) =
    ((kind w ≡ 3) × (payload w ≡ l) × Lawful 0 ws) ⊎ ((kind w ≡ 2) × (0 < boolean w) × Lawful (suc l) ws)

pub lawful : (n at l : ℕ) (ws : List ℕ) → list_from n at l ws ≡ passed → Lawful l ws
unfolding list_from
lawful n at l [] e = go (eqb l 0) refl e
  where
    go : (b : Bool) → eqb l 0 ≡ b → unless b (OpenClause at) ≡ passed → l ≡ 0
    go true f e = eqb-true l 0 f
    go false f e = refused_fails (OpenClause at) e
lawful n at l (w ∷ ws) e = go (eqb (kind w) 3) refl (eqb (kind w) 2) refl (λ k. lawful n (suc at) k ws) e
  where
    ends : Checked
    ends = and_then (unless (eqb (payload w) l) (LiteralCount at)) (list_from n (suc at) 0 ws)

    goes : Checked
    goes = and_then (unless (leb 1 (boolean w) && leb (boolean w) n) (UnknownBoolean at)) (list_from n (suc at) (suc l) ws)

    go : (p : Bool) → eqb (kind w) 3 ≡ p → (q : Bool) → eqb (kind w) 2 ≡ q → ((k : ℕ) → list_from n (suc at) k ws ≡ passed → Lawful k ws)
        → cond p ends (cond q goes (Err (ClauseWord at))) ≡ passed → Lawful l (w ∷ ws)
    go true f q g more e =
        let h = both_passed (unless (eqb (payload w) l) (LiteralCount at)) (list_from n (suc at) 0 ws) e in
        inl (eqb-true (kind w) 3 f, eqb-true (payload w) l (unless_passed (eqb (payload w) l) (LiteralCount at) h.0), more 0 h.1)
    go false f true g more e =
        let known : Bool = leb 1 (boolean w) && leb (boolean w) n in
        let h = both_passed (unless known (UnknownBoolean at)) (list_from n (suc at) (suc l) ws) e in
        inr (eqb-true (kind w) 2 g, (between_is 1 (boolean w) n (unless_passed known (UnknownBoolean at) h.0)).0, more (suc l) h.1)
    go false f false g more e = refused_fails (ClauseWord at) e

-- ---- What passes is the words of its clauses

-- where literals stand since the last end word, the clause that they belong to is closed
begun : (l : ℕ) (ws : List ℕ) → Lawful (suc l) ws → ¬ (clauses_of ws ≡ [])
begun l [] h e = omega arith
begun l (w ∷ ws) (inl h) e = let f = read_end w ws h.0 in let z : ◌≡◌ {A = ℕ} 0 1 = cc in omega arith
begun l (w ∷ ws) (inr h) e = go (clauses_of ws) (begun (suc l) ws h.2) (sym (read_literal w ws h.0) ∙ e)
  where
    go : (cs : List Clause) → ¬ (cs ≡ []) → joined (literal_of w) cs ≡ [] → ⊥
    go [] n f = n refl
    go (c ∷ cs) n f = let z : ◌≡◌ {A = ℕ} 0 1 = cc in omega arith

-- the words of clauses, where l literals of the first stand before them
abbrev words_from : ℕ → List Clause → List ℕ
words_from l [] = []
words_from l (c ∷ cs) = closed c (end_word (l + length c) ∷ words_of cs)

from_start : (cs : List Clause) → words_from 0 cs ≡ words_of cs
from_start [] = refl
from_start (c ∷ cs) = let e : 0 + length c ≡ length c = omega arith in ap (λ (k : ℕ). closed c (end_word k ∷ words_of cs)) e

words_from_lem : (l : ℕ) (ws : List ℕ) → Lawful l ws → words_from l (clauses_of ws) ≡ ws
unfolding clauses_of
words_from_lem l [] h = refl
words_from_lem l (w ∷ ws) (inl h) =
    let e : end_word (l + 0) ≡ w = omega (arith, h.0, h.1) in
    ap (words_from l) (read_end w ws h.0) ∙ ap₂ (λ (x : ℕ) (xs : List ℕ). x ∷ xs) e (sym (from_start (clauses_of ws)) ∙ words_from_lem 0 ws h.2)
words_from_lem l (w ∷ ws) (inr h) = ap (words_from l) (read_literal w ws h.0) ∙ go (clauses_of ws) (begun l ws h.2) (words_from_lem (suc l) ws h.2)
  where
    go : (cs : List Clause) → ¬ (cs ≡ []) → words_from (suc l) cs ≡ ws → words_from l (joined (literal_of w) cs) ≡ w ∷ ws
    go [] n e = absurd (n refl)
    go (c ∷ cs) n e =
        let k : l + suc (length c) ≡ suc l + length c = omega arith in
        ap₂ (λ (x i : ℕ). x ∷ closed c (end_word i ∷ words_of cs)) (word_is w h.0) k ∙ ap (λ (xs : List ℕ). w ∷ xs) e

pub lawful_written : (ws : List ℕ) → Lawful 0 ws → words_of (clauses_of ws) ≡ ws
lawful_written ws h = sym (from_start (clauses_of ws)) ∙ words_from_lem 0 ws h

-- ---- A list in two parts

-- the clauses of a first part that closes them all, and those of the second
pub clauses_append : (l : ℕ) (us ws : List ℕ) → Lawful l us → clauses_of (us ++ ws) ≡ clauses_of us ++ clauses_of ws
unfolding clauses_of
clauses_append l [] ws h = refl
clauses_append l (u ∷ us) ws (inl h) =
    read_end u (us ++ ws) h.0
    ∙ ap (λ (cs : List Clause). [] ∷ cs) (clauses_append 0 us ws h.2)
    ∙ ap (λ (cs : List Clause). cs ++ clauses_of ws) (sym (read_end u us h.0))
clauses_append l (u ∷ us) ws (inr h) =
    read_literal u (us ++ ws) h.0
    ∙ ap (joined (literal_of u)) (clauses_append (suc l) us ws h.2)
    ∙ go (clauses_of us) (begun l us h.2)
    ∙ ap (λ (cs : List Clause). cs ++ clauses_of ws) (sym (read_literal u us h.0))
  where
    go : (cs : List Clause) → ¬ (cs ≡ []) → joined (literal_of u) (cs ++ clauses_of ws) ≡ joined (literal_of u) cs ++ clauses_of ws
    go [] n = absurd (n refl)
    go (c ∷ cs) n = refl

-- what stands before an end word with count 0 is lawful by itself: no literals are left over
pub lawful_before : (l : ℕ) (us ws : List ℕ) → Lawful l (us ++ (end_word 0 ∷ ws)) → Lawful l us
lawful_before l [] ws (inl h) = omega (arith, h.1)
lawful_before l [] ws (inr h) = absurd (omega (arith, h.0))
lawful_before l (u ∷ us) ws (inl h) = inl (h.0, h.1, lawful_before 0 us ws h.2)
lawful_before l (u ∷ us) ws (inr h) = inr (h.0, h.1, lawful_before (suc l) us ws h.2)

-- ---- The numbers of a lawful list fit their words

-- where l literals of the first clause stand before
abbrev FitFrom : ℕ → List Clause → Type 0
FitFrom l [] = Unit {0}
FitFrom l (c ∷ cs) = (LiteralsFit last_boolean c × (l + length c ≤ last_count)) × Fit last_boolean cs

fit_from : (cs : List Clause) → FitFrom 0 cs → Fit last_boolean cs
fit_from [] f = tt
fit_from (c ∷ cs) f = ((f.0.0, omega (arith, f.0.1)), f.1)

fit_lawful : (l : ℕ) (ws : List ℕ) → Lawful l ws → FitFrom l (clauses_of ws)
unfolding clauses_of
fit_lawful l [] h = tt
fit_lawful l (w ∷ ws) (inl h) =
    subst (FitFrom l) (sym (read_end w ws h.0)) ((tt, omega (arith, h.1)), fit_from (clauses_of ws) (fit_lawful 0 ws h.2))
fit_lawful l (w ∷ ws) (inr h) = subst (FitFrom l) (sym (read_literal w ws h.0)) (go (clauses_of ws) (fit_lawful (suc l) ws h.2))
  where
    go : (cs : List Clause) → FitFrom (suc l) cs → FitFrom l (joined (literal_of w) cs)
    go [] f = tt
    go (c ∷ cs) f = ((((h.1, omega arith), f.0.0), omega (arith, f.0.1)), f.1)

pub fit_parts : (cs ds : List Clause) → Fit last_boolean (cs ++ ds) → Fit last_boolean cs × Fit last_boolean ds
fit_parts [] ds f = (tt, f)
fit_parts (c ∷ cs) ds f = let t = fit_parts cs ds f.1 in ((f.0, t.0), t.1)

pub lawful_fit : (ws : List ℕ) → Lawful 0 ws → Fit last_boolean (clauses_of ws)
lawful_fit ws h = fit_from (clauses_of ws) (fit_lawful 0 ws h)
