-- WHERE CLAUSES STAND in a list that passes the check: at a place between two clauses those before it and those behind it make up the list. From there the
-- next clause is read forward up to its end word, and the one before by the count in its end word. Assumes nothing.
use mathlib.Core.Path.{◌≡◌, refl, sym, ap, ap₂, subst, ◌∙◌}
use mathlib.Core.Logic.{◌⊎◌, inl, inr, ⊎_elim}
use mathlib.Core.List.{List, [], ◌∷◌, ◌++◌, append_assoc}
use Prim.Native.Nat.{ℕ, suc, ◌+◌, ◌-◌, ◌≤◌, ◌<◌}
use native.Mathlib.Omega.{arith}
use lib.ListN.{length, get_or, take, drop}
use lib.Seq.{take-append_seam, drop-append_seam, get_or-append-add}
use borrow.Author.Tests.{eq-eqb, ne_eqb}
use Rattle.word.specs.Word.{kind, payload, last_boolean, end_word, last_count}
use Rattle.clause.specs.Meaning.{Literal, Clause, literal_of, joined, clauses_of, word_of, closed, words_of}
use Rattle.clause.proofs.Written.{LiteralsFit, Fit, literal_word_lem, end_word_lem, read_end, read_literal, words_append, size, size_append, words_length}
use Rattle.clause.proofs.Checked.{Lawful, lawful, lawful_written, lawful_fit, fit_parts}
use Rattle.tester.specs.Past.{past_end}
use Rattle.propagation.specs.Derived.{HasLiteral, HasClause, KnownIn}
use Rattle.propagation.specs.Propagated.{Status, falsified, met, status_from, status}
use Rattle.propagator.specs.Pass.{looked, Ended, ListPasses, Split, Between}
use Rattle.propagator.proofs.Looks.{LawfulWord, listed_at}

-- ---- The words of one clause

looked_closed : (bs : List ℕ) (s : Status) (c : Clause) (k : ℕ) (ys : List ℕ) → LiteralsFit last_boolean c → k ≤ last_count → looked bs s (closed c (end_word k ∷ ys)) ≡ status_from bs s c
unfolding looked status_from
looked_closed bs s [] k ys f h = rw (eq-eqb (kind (end_word k)) 3 (end_word_lem k h).0)
looked_closed bs s (l ∷ c) k ys f h =
    let t = literal_word_lem l.says l.of f.0.1 in
    rw (ne_eqb (kind (word_of l)) 3 (λ e. omega (arith, e, t.0)))
    (ap (λ (x : Literal). looked bs (met bs x s) (closed c (end_word k ∷ ys))) t.1 ∙ looked_closed bs (met bs l s) c k ys f.1 h)

past_closed : (at : ℕ) (c : Clause) (k : ℕ) (ys : List ℕ) → LiteralsFit last_boolean c → k ≤ last_count → past_end at (closed c (end_word k ∷ ys)) ≡ at + suc (length c)
unfolding past_end
past_closed at [] k ys f h = rw (eq-eqb (kind (end_word k)) 3 (end_word_lem k h).0) (omega arith)
past_closed at (l ∷ c) k ys f h =
    let t = literal_word_lem l.says l.of f.0.1 in
    rw (ne_eqb (kind (word_of l)) 3 (λ e. omega (arith, e, t.0))) (past_closed (suc at) c k ys f.1 h ∙ omega arith)

closed_at : (c : Clause) (x : ℕ) (ys : List ℕ) → get_or (closed c (x ∷ ys)) (length c) 0 ≡ x
closed_at [] x ys = refl
closed_at (l ∷ c) x ys = closed_at c x ys

-- ---- A place between two clauses

-- the last of some clauses
last_of : (p : List Clause) → ¬ (size p ≡ 0) → (q : List Clause) × (c : Clause) × (p ≡ q ++ (c ∷ []))
last_of [] h = absurd (h refl)
last_of (c ∷ []) h = ([], c, refl)
last_of (c ∷ d ∷ p) h =
    let t = last_of (d ∷ p) (λ e. omega (arith, e)) in
    (c ∷ t.0, t.1, ap (λ (x : List Clause). c ∷ x) t.2)

none_behind : (p : List Clause) → p ++ [] ≡ p
none_behind [] = refl
none_behind (c ∷ p) = ap (λ (x : List Clause). c ∷ x) (none_behind p)

-- a list in two parts has the clauses of both
pub has_before : (p q : List Clause) (c : Clause) → HasClause p c → HasClause (p ++ q) c
has_before (d ∷ p) q c (inl e) = inl e
has_before (d ∷ p) q c (inr m) = inr (has_before p q c m)
has_before [] q c m = absurd m

pub has_behind : (p q : List Clause) (c : Clause) → HasClause q c → HasClause (p ++ q) c
has_behind [] q c m = m
has_behind (d ∷ p) q c m = inr (has_behind p q c m)

has_either : (p q : List Clause) (c : Clause) → HasClause (p ++ q) c → HasClause p c ⊎ HasClause q c
has_either [] q c m = inr m
has_either (d ∷ p) q c (inl e) = inl (inl e)
has_either (d ∷ p) q c (inr m) = ⊎_elim (λ n. inl (inr n)) inr (has_either p q c m)

-- the last one, or one before it
pub has_last : (p : List Clause) (c x : Clause) → HasClause (p ++ (c ∷ [])) x → (x ≡ c) ⊎ HasClause p x
has_last p c x m = ⊎_elim inr (λ n. inl (⊎_elim (λ e. e) (λ z. absurd z) n)) (has_either p (c ∷ []) x m)

module _ (ws : List ℕ) (n : ℕ) (listed : ListPasses n ws) where
  law : Lawful 0 ws
  law = lawful n 0 0 ws listed

  pub split_start : Split ws 0 [] (clauses_of ws)
  split_start = record { clauses = refl; place = refl }

  module _ (at : ℕ) (pre post : List Clause) (s : Split ws at pre post) where
    words_are : ws ≡ words_of pre ++ words_of post
    words_are = sym (lawful_written ws law) ∙ ap words_of s.clauses ∙ words_append pre post

    -- the words before it are those of the clauses before it, and the words behind it those of the others
    pub words_before : take at ws ≡ words_of pre
    words_before = ap₂ take s.place words_are ∙ take-append_seam (words_of pre) (words_of post)

    pub words_behind : drop at ws ≡ words_of post
    words_behind = ap₂ drop s.place words_are ∙ drop-append_seam (words_of pre) (words_of post)

    placed : at ≡ size pre
    placed = s.place ∙ words_length pre

    long : length ws ≡ at + size post
    long =
        ap length (sym (lawful_written ws law))
        ∙ words_length (clauses_of ws)
        ∙ ap size s.clauses
        ∙ size_append pre post
        ∙ ap (λ (x : ℕ). x + size post) (sym placed)

    pub within : at ≤ length ws
    within = omega (arith, long)

    all_fit : Fit last_boolean (pre ++ post)
    all_fit = subst (Fit last_boolean) s.clauses (lawful_fit ws law)

    pub fits_before : Fit last_boolean pre
    fits_before = (fit_parts pre post all_fit).0

    pub fits_behind : Fit last_boolean post
    fits_behind = (fit_parts pre post all_fit).1

    -- a clause of the list is before it or behind it
    pub either_side : (c : Clause) → HasClause (clauses_of ws) c → HasClause pre c ⊎ HasClause post c
    either_side c m = has_either pre post c (subst (λ (x : List Clause). HasClause x c) s.clauses m)

    -- before the list's end a clause is behind it, and at its end none; at its beginning none is before it
    pub one_behind : at < length ws → (c : Clause) × (more : List Clause) × (post ≡ c ∷ more)
    one_behind h = go post long
      where
        go : (p : List Clause) → length ws ≡ at + size p → (c : Clause) × (more : List Clause) × (p ≡ c ∷ more)
        go [] e = absurd (omega arith)
        go (c ∷ p) e = (c, p, refl)

    pub at_end : length ws ≤ at → (c : Clause) → HasClause post c → ⊥
    at_end h c m = go post long m
      where
        go : (p : List Clause) → length ws ≡ at + size p → HasClause p c → ⊥
        go [] e m = m
        go (d ∷ p) e m = absurd (omega arith)

    pub at_start : at ≡ 0 → (c : Clause) → HasClause pre c → ⊥
    at_start e c m = go pre (sym placed ∙ e) m
      where
        go : (p : List Clause) → size p ≡ 0 → HasClause p c → ⊥
        go [] e m = m
        go (d ∷ p) e m = absurd (omega arith)

  -- THE CLAUSE BEHIND a place: it is one of the list's, its status is found there, and the next place is past its end word
  module _ (at : ℕ) (pre : List Clause) (c : Clause) (post : List Clause) (s : Split ws at pre (c ∷ post)) where
    pub in_list : HasClause (clauses_of ws) c
    in_list = subst (λ (x : List Clause). HasClause x c) (sym s.clauses) (has_behind pre (c ∷ post) c (inl refl))

    own : LiteralsFit last_boolean c × (length c ≤ last_count)
    own = (fits_behind at pre (c ∷ post) s).0

    pub status_here : (bs : List ℕ) → looked bs falsified (drop at ws) ≡ status bs c
    status_here bs = ap (looked bs falsified) (words_behind at pre (c ∷ post) s) ∙ looked_closed bs falsified c (length c) (words_of post) own.0 own.1

    past_here : past_end at (drop at ws) ≡ at + suc (length c)
    past_here = ap (past_end at) (words_behind at pre (c ∷ post) s) ∙ past_closed at c (length c) (words_of post) own.0 own.1

    -- its end word
    end_here : (at + length c < length ws) × (get_or ws (at + length c) 0 ≡ end_word (length c))
    end_here = (
      omega (arith, long at pre (c ∷ post) s),
      ap₂ (λ (x : List ℕ) (y : ℕ). get_or x y 0) (words_are at pre (c ∷ post) s) (ap (λ (x : ℕ). x + length c) s.place)
          ∙ get_or-append-add (words_of pre) (words_of (c ∷ post)) (length c) 0
          ∙ closed_at c (end_word (length c)) (words_of post),
    )

    pub ended_here : Ended ws at
    ended_here =
        let t = end_here in
        (at + length c, omega arith, t.0, ap kind t.1 ∙ (end_word_lem (length c) own.1).0)

    pub split_next : Split ws (past_end at (drop at ws)) (pre ++ (c ∷ [])) post
    split_next =
        record {
          clauses = s.clauses ∙ sym (append_assoc pre (c ∷ []) post);
          place = past_here ∙ omega (arith, placed at pre (c ∷ post) s, size_append pre (c ∷ []), words_length (pre ++ (c ∷ [])));
        }

    pub past_end_within : (at < past_end at (drop at ws)) × (past_end at (drop at ws) ≤ length ws)
    past_end_within = (omega (arith, past_here), omega (arith, past_here, long at pre (c ∷ post) s))

  pub between_ended : (at : ℕ) → Between ws at → at < length ws → Ended ws at
  between_ended at (pre, post, s) h =
      let t = one_behind at pre post s h in
      ended_here at pre t.0 t.1 (subst (Split ws at pre) t.2 s)

  -- THE CLAUSE BEFORE a place: the end word there tells where it begins
  pub record ClauseBefore (end : ℕ) (pre post : List Clause) : Type 0 where
    pub more : List Clause
    pub clause : Clause
    pub last : pre ≡ more ++ (clause ∷ [])
    pub begins : Split ws (end - 1 - payload (get_or ws (end - 1) 0)) more (clause ∷ post)
    pub fits_in : suc (payload (get_or ws (end - 1) 0)) ≤ end

  pub one_before : (end : ℕ) (pre post : List Clause) → Split ws end pre post → 0 < end → ClauseBefore end pre post
  one_before end pre post s h = go (last_of pre (λ e. omega (arith, e, placed end pre post s)))
    where
      go : (q : List Clause) × (c : Clause) × (pre ≡ q ++ (c ∷ [])) → ClauseBefore end pre post
      go (q, c, e) =
          record {
            more = q;
            clause = c;
            last = e;
            begins = record { clauses = split.clauses; place = omega (arith, count, split.place) };
            fits_in = omega (arith, count);
          }
        where
          split : Split ws (size q) q (c ∷ post)
          split =
              record {
                clauses = s.clauses ∙ ap (λ (x : List Clause). x ++ post) e ∙ append_assoc q (c ∷ []) post;
                place = sym (words_length q);
              }

          from : end ≡ size q + suc (length c)
          from = placed end pre post s ∙ ap size e ∙ size_append q (c ∷ []) ∙ omega arith

          word : get_or ws (end - 1) 0 ≡ end_word (length c)
          word =
              let i : end - 1 ≡ size q + length c = omega (arith, from) in
              ap (λ (x : ℕ). get_or ws x 0) i ∙ (end_here (size q) q c post split).1

          count : (payload (get_or ws (end - 1) 0) ≡ length c) × (end ≡ size q + suc (length c))
          count = (ap payload word ∙ (end_word_lem (length c) (own (size q) q c post split).1).1, from)

-- ---- Its Booleans are known

pub known_clauses : (n : ℕ) (ws : List ℕ) → ((i : ℕ) → i < length ws → LawfulWord n (get_or ws i 0)) → KnownIn n (clauses_of ws)
unfolding clauses_of
known_clauses n [] f = λ c m l k. absurd m
known_clauses n (w ∷ ws) f = go (f 0 (omega arith)) (known_clauses n ws (λ i h. f (suc i) (omega arith)))
  where
    go : LawfulWord n w → KnownIn n (clauses_of ws) → KnownIn n (clauses_of (w ∷ ws))
    go (inl e) ih = subst (KnownIn n) (sym (read_end w ws e)) first
      where
        first : KnownIn n ([] ∷ clauses_of ws)
        first c (inl q) l k = absurd (subst (λ (x : Clause). HasLiteral x l) q k)
        first c (inr m) l k = ih c m l k
    go (inr e) ih = subst (KnownIn n) (sym (read_literal w ws e.0)) (first (clauses_of ws) ih)
      where
        first : (cs : List Clause) → KnownIn n cs → KnownIn n (joined (literal_of w) cs)
        first [] g c m l k = absurd m
        first (d ∷ cs) g c (inr m) l k = g c (inr m) l k
        first (d ∷ cs) g c (inl q) l k =
            ⊎_elim (λ r. subst (λ (x : Literal). (1 ≤ x.of) × (x.of ≤ n)) (sym r) (e.1, e.2)) (λ r. g d (inl refl) l r)
            (subst (λ (x : Clause). HasLiteral x l) q k)

pub listed_known : (n : ℕ) (ws : List ℕ) → ListPasses n ws → KnownIn n (clauses_of ws)
listed_known n ws e = known_clauses n ws (listed_at n 0 0 ws e)
