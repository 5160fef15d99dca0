-- READING GIVES BACK what was written: the words of a list of clauses have just these clauses, where every number fits its word. Assumes nothing.
use mathlib.Core.Path.{◌≡◌, refl, sym, ap, ap₂, ◌∙◌}
use mathlib.Core.List.{List, [], ◌∷◌, ◌++◌}
use mathlib.Core.Bool.{Bool, true, false, not}
use Prim.Native.Nat.{ℕ, suc, ◌+◌, ◌≤◌}
use native.Mathlib.Omega.{arith}
use lib.ListN.{length}
use borrow.Author.Tests.{eq-eqb, ne_eqb, le-leb, lt-leb, leb-true, leb-false}
use Rattle.word.specs.Word.{kind, payload, boolean, negated, last_boolean, literal_word, last_count, end_word}
use Rattle.clause.specs.Meaning.{Clause, literal_of, joined, clauses_of, word_of, closed, words_of}

-- every number fits: Booleans from 1 to m, counts of 30 bits
abbrev pub LiteralsFit : ℕ → Clause → Type 0
LiteralsFit m [] = Unit {0}
LiteralsFit m (l ∷ c) = ((1 ≤ l.of) × (l.of ≤ m)) × LiteralsFit m c

abbrev pub Fit : ℕ → List Clause → Type 0
Fit m [] = Unit {0}
Fit m (c ∷ cs) = (LiteralsFit m c × (length c ≤ last_count)) × Fit m cs

pub fit_append : (m : ℕ) (cs ds : List Clause) → Fit m cs → Fit m ds → Fit m (cs ++ ds)
fit_append m [] ds h k = k
fit_append m (c ∷ cs) ds h k = (h.0, fit_append m cs ds h.1 k)

-- ---- Words

pub literal_word_lem : (s : Bool) (b : ℕ) → b ≤ last_boolean → (kind (literal_word s b) ≡ 2) × (literal_of (literal_word s b) ≡ record { of = b; says = s })
literal_word_lem true b h = (omega arith, λ i. record { of = of i; says = not (says i) })
  where
    of : boolean (literal_word true b) ≡ b
    of = omega arith

    says : negated (literal_word true b) ≡ false
    says = lt-leb 0x20000000 (payload (literal_word true b)) (omega arith)
literal_word_lem false b h = (omega arith, λ i. record { of = of i; says = not (says i) })
  where
    of : boolean (literal_word false b) ≡ b
    of = omega arith

    says : negated (literal_word false b) ≡ true
    says = le-leb 0x20000000 (payload (literal_word false b)) (omega arith)

-- a literal's word is that of its sign and its Boolean
pub word_is : (w : ℕ) → kind w ≡ 2 → literal_word (not (negated w)) (boolean w) ≡ w
word_is w h = go (negated w) refl
  where
    go : (p : Bool) → negated w ≡ p → literal_word (not p) (boolean w) ≡ w
    go true e = let z = leb-true 0x20000000 (payload w) e in omega arith
    go false e = let z = leb-false 0x20000000 (payload w) e in omega arith

pub end_word_lem : (k : ℕ) → k ≤ last_count → (kind (end_word k) ≡ 3) × (payload (end_word k) ≡ k)
end_word_lem k h = (omega arith, omega arith)

pub read_end : (w : ℕ) (ws : List ℕ) → kind w ≡ 3 → clauses_of (w ∷ ws) ≡ [] ∷ clauses_of ws
unfolding clauses_of
read_end w ws e = rw (eq-eqb (kind w) 3 e)

pub read_literal : (w : ℕ) (ws : List ℕ) → kind w ≡ 2 → clauses_of (w ∷ ws) ≡ joined (literal_of w) (clauses_of ws)
unfolding clauses_of
read_literal w ws e = rw (ne_eqb (kind w) 3 (λ f. omega arith))

-- ---- Clauses

literals_read : (m : ℕ) → m ≤ last_boolean → (c d : Clause) (cs : List Clause) (ws : List ℕ) → LiteralsFit m c → clauses_of ws ≡ d ∷ cs
    → clauses_of (closed c ws) ≡ (c ++ d) ∷ cs
literals_read m k [] d cs ws h e = e
literals_read m k (l ∷ c) d cs ws h e =
    let t = literal_word_lem l.says l.of (omega (arith, h.0.1)) in
    read_literal (word_of l) (closed c ws) t.0 ∙ ap₂ joined t.1 (literals_read m k c d cs ws h.1 e)

append_none : (c : Clause) → c ++ [] ≡ c
append_none [] = refl
append_none (l ∷ c) = ap (λ (x : Clause). l ∷ x) (append_none c)

pub read_written : (m : ℕ) → m ≤ last_boolean → (cs : List Clause) → Fit m cs → clauses_of (words_of cs) ≡ cs
unfolding clauses_of
read_written m k [] h = refl
read_written m k (c ∷ cs) h =
    literals_read m k c [] cs (end_word (length c) ∷ words_of cs) h.0.0
    (read_end (end_word (length c)) (words_of cs) (end_word_lem (length c) h.0.1).0 ∙ ap (λ (x : List Clause). [] ∷ x) (read_written m k cs h.1))
    ∙ ap (λ (x : Clause). x ∷ cs) (append_none c)

-- ---- Lists one after the other, and lengths

pub closed_append : (c : Clause) (ws us : List ℕ) → closed c ws ++ us ≡ closed c (ws ++ us)
closed_append [] ws us = refl
closed_append (l ∷ c) ws us = ap (λ (x : List ℕ). word_of l ∷ x) (closed_append c ws us)

pub words_append : (cs ds : List Clause) → words_of (cs ++ ds) ≡ words_of cs ++ words_of ds
words_append [] ds = refl
words_append (c ∷ cs) ds =
    ap (λ (x : List ℕ). closed c (end_word (length c) ∷ x)) (words_append cs ds)
    ∙ sym (closed_append c (end_word (length c) ∷ words_of cs) (words_of ds))

-- the number of words that clauses take: one a literal and one a clause
abbrev pub size : List Clause → ℕ
size [] = 0
size (c ∷ cs) = length c + suc (size cs)

closed_length : (c : Clause) (ws : List ℕ) → length (closed c ws) ≡ length c + length ws
closed_length [] ws = omega arith
closed_length (l ∷ c) ws = omega (arith, closed_length c ws)

pub words_length : (cs : List Clause) → length (words_of cs) ≡ size cs
words_length [] = refl
words_length (c ∷ cs) = omega (arith, closed_length c (end_word (length c) ∷ words_of cs), words_length cs)

pub size_append : (cs ds : List Clause) → size (cs ++ ds) ≡ size cs + size ds
size_append [] ds = omega arith
size_append (c ∷ cs) ds = omega (arith, size_append cs ds)
