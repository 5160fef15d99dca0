-- WHAT COUNTING DOES to the table: the numbers of entering edges grow by the edges that lead to each node, and nothing else changes. By induction on the
-- edges. Assumes nothing.
use mathlib.Core.Path.{◌≡◌, refl, sym, ap, subst, ◌∙◌}
use mathlib.Core.List.{List, [], ◌∷◌, ◌++◌}
use mathlib.Core.Bool.{Bool, true, false, cond}
use Prim.Native.Nat.{ℕ, zero, suc, ◌+◌, ◌*◌, ◌≤◌, ◌<◌}
use native.Mathlib.Numerals.{add-one}
use native.Mathlib.Omega.{arith}
use lib.Dec.{ltb, eqb}
use lib.ListN.{length, get_or, take, drop, set, length-set, length-take}
use lib.Seq.{take-suc, get_or-take, drop-set-lt, get_or-set_same, get_or-set_other}
use borrow.Author.Tests.{ltb-true, ltb-false, eqb-true, eqb-false}
use Rattle.word.specs.Edge.{Edge, F, T, to}
use Rattle.word.specs.Record.{record_words, first_word, entering_word, RecordsFit, labels}
use Rattle.word.proofs.Labels.{labels_kept}
use Rattle.diagram.specs.Constraint.{last_end}
use Rattle.diagram.specs.Entering.{ends_at, times}
use Rattle.diagram.proofs.Entering.{Inside, times_few}
use Rattle.linker.specs.Counting.{entering_at, entered_by, entered, unentered, CanEnter, CountsFit}

-- Each edge of a list leads to T, to F or to one of the first n nodes.
abbrev pub EachInside : ℕ → List Edge → Type 0
EachInside n es = (j : ℕ) → j < length es → Inside n (get_or es j F)

-- ---- An edge

by_length : (t : List ℕ) (e : Edge) → length (entered_by t e) ≡ length t
by_length t F = refl
by_length t T = refl
by_length t (to k) = length-set t (entering_at k) (get_or t (entering_at k) 0 + 1)

by_labels : (t : List ℕ) (e : Edge) → labels (entered_by t e) ≡ labels t
by_labels t F = refl
by_labels t T = refl
by_labels t (to k) = labels_kept t k entering_word (get_or t (entering_at k) 0 + 1) (omega arith) (omega arith)

by_first : (t : List ℕ) (e : Edge) (n : ℕ) → get_or (entered_by t e) (n * record_words + first_word) 0 ≡ get_or t (n * record_words + first_word) 0
by_first t F n = refl
by_first t T n = refl
by_first t (to k) n = get_or-set_other t (entering_at k) (n * record_words + first_word) (get_or t (entering_at k) 0 + 1) 0 (λ q. omega arith)

by_rest : (t : List ℕ) (e : Edge) (n : ℕ) → Inside n e → drop (n * record_words) (entered_by t e) ≡ drop (n * record_words) t
by_rest t F n h = refl
by_rest t T n h = refl
by_rest t (to k) n h = drop-set-lt (n * record_words) t (entering_at k) (get_or t (entering_at k) 0 + 1) (omega arith)

by_counts : (t : List ℕ) (e : Edge) (n k : ℕ) → RecordsFit n t → Inside n e → get_or (entered_by t e) (entering_at k) 0 ≡ get_or t (entering_at k) 0 + ends_at k e
by_counts t F n k room h = omega arith
by_counts t T n k room h = omega arith
by_counts t (to m) n k room h = go (eqb m k) refl
  where
    go : (b : Bool) → eqb m k ≡ b → get_or (entered_by t (to m)) (entering_at k) 0 ≡ get_or t (entering_at k) 0 + cond (eqb m k) 1 0
    go true e =
        let q = eqb-true m k e in
        rw e (ap (λ (i : ℕ). get_or (entered_by t (to m)) (entering_at i) 0) (sym q)
        ∙ get_or-set_same t (entering_at m) (get_or t (entering_at m) 0 + 1) 0 (omega arith)
        ∙ ap (λ (i : ℕ). get_or t (entering_at i) 0 + 1) q)
    go false e =
        rw e (get_or-set_other t (entering_at m) (entering_at k) (get_or t (entering_at m) 0 + 1) 0 (λ q. eqb-false m k e (omega arith)) ∙ omega arith)

-- ---- Edges

pub entered_length : (t : List ℕ) (es : List Edge) → length (entered t es) ≡ length t
unfolding entered
entered_length t [] = refl
entered_length t (e ∷ es) = entered_length (entered_by t e) es ∙ by_length t e

pub entered_labels : (t : List ℕ) (es : List Edge) → labels (entered t es) ≡ labels t
unfolding entered
entered_labels t [] = refl
entered_labels t (e ∷ es) = entered_labels (entered_by t e) es ∙ by_labels t e

pub entered_first : (t : List ℕ) (es : List Edge) (n : ℕ) → get_or (entered t es) (n * record_words + first_word) 0 ≡ get_or t (n * record_words + first_word) 0
unfolding entered
entered_first t [] n = refl
entered_first t (e ∷ es) n = entered_first (entered_by t e) es n ∙ by_first t e n

pub entered_rest : (t : List ℕ) (es : List Edge) (n : ℕ) → EachInside n es → drop (n * record_words) (entered t es) ≡ drop (n * record_words) t
unfolding entered
entered_rest t [] n h = refl
entered_rest t (e ∷ es) n h = entered_rest (entered_by t e) es n (λ j k. h (suc j) (omega arith)) ∙ by_rest t e n (h 0 (omega arith))

-- THE NUMBERS grow by how often each node is an edge's end
pub entered_counts : (t : List ℕ) (es : List Edge) (n k : ℕ) → RecordsFit n t → EachInside n es → get_or (entered t es) (entering_at k) 0 ≡ get_or t (entering_at k) 0 + times k es
unfolding entered times
entered_counts t [] n k room h = omega arith
entered_counts t (e ∷ es) n k room h =
    entered_counts (entered_by t e) es n k (omega (arith, by_length t e)) (λ j l. h (suc j) (omega arith))
    ∙ omega (arith, by_counts t e n k room (h 0 (omega arith)))

-- A part of the edges leads to the same nodes.
inside_take : (n : ℕ) (es : List Edge) (j : ℕ) → EachInside n es → EachInside n (take j es)
inside_take n es j h i l =
    let m = length-take j es in
    subst (Inside n) (sym (get_or-take j es i F (omega arith))) (h i (omega arith))

-- Where the numbers fit, and a row's first j edges are counted, the next one can be.
pub can_enter : (t : List ℕ) (es : List Edge) (n j : ℕ) (e : Edge) → RecordsFit n t → CountsFit t n → EachInside n es → j ≤ last_end → Inside n e → CanEnter (entered t (take j es)) e
can_enter t es n j F room fit h l i = tt
can_enter t es n j T room fit h l i = tt
can_enter t es n j (to k) room fit h l i =
    let few = times_few k (take j es) in
    let count = entered_counts t (take j es) n k room (inside_take n es j h) in
    let long = length-take j es in
    (omega (arith, entered_length t (take j es)), omega (arith, fit k i))

-- One edge more.
entered_snoc : (t : List ℕ) (es : List Edge) (e : Edge) → entered t (es ++ (e ∷ [])) ≡ entered_by (entered t es) e
unfolding entered
entered_snoc t [] e = refl
entered_snoc t (x ∷ es) e = entered_snoc (entered_by t x) es e

pub entered_next : (t : List ℕ) (es : List Edge) (j : ℕ) → j < length es → entered t (take (suc j) es) ≡ entered_by (entered t (take j es)) (get_or es j F)
entered_next t es j h = ap (entered t) (take-suc es j F h) ∙ entered_snoc t (take j es) (get_or es j F)

-- ---- None

pub none_length : (t : List ℕ) (n : ℕ) → length (unentered t n) ≡ length t
unfolding unentered
none_length t zero = refl
none_length t (suc n) = length-set (unentered t n) (entering_at n) 0 ∙ none_length t n

pub none_labels : (t : List ℕ) (n : ℕ) → labels (unentered t n) ≡ labels t
unfolding unentered
none_labels t zero = refl
none_labels t (suc n) = labels_kept (unentered t n) n entering_word 0 (omega arith) (omega arith) ∙ none_labels t n

pub none_rest : (t : List ℕ) (n m : ℕ) → n ≤ m → drop (m * record_words) (unentered t n) ≡ drop (m * record_words) t
unfolding unentered
none_rest t zero m h = refl
none_rest t (suc n) m h = drop-set-lt (m * record_words) (unentered t n) (entering_at n) 0 (omega arith) ∙ none_rest t n m (omega arith)

pub none_counts : (t : List ℕ) (n k : ℕ) → RecordsFit n t → k < n → get_or (unentered t n) (entering_at k) 0 ≡ 0
unfolding unentered
none_counts t zero k room h = absurd (omega arith)
none_counts t (suc n) k room h = go (ltb k n) refl (none_counts t n k)
  where
    go : (b : Bool) → ltb k n ≡ b → (RecordsFit n t → k < n → get_or (unentered t n) (entering_at k) 0 ≡ 0) → get_or (set (unentered t n) (entering_at n) 0) (entering_at k) 0 ≡ 0
    go true e f =
        let l = ltb-true k n e in
        get_or-set_other (unentered t n) (entering_at n) (entering_at k) 0 0 (λ q. omega arith) ∙ f (omega arith) l
    go false e f =
        let q : k ≡ n = omega (arith, ltb-false k n e) in
        ap (λ (i : ℕ). get_or (set (unentered t n) (entering_at n) 0) (entering_at i) 0) q
        ∙ get_or-set_same (unentered t n) (entering_at n) 0 0 (omega (arith, none_length t n))

pub none_next : (t u : List ℕ) (n : ℕ) → u ≡ unentered t n → set u (entering_at n) 0 ≡ unentered t (n + 1)
unfolding unentered
none_next t u n e = rw (e, add-one n) refl
