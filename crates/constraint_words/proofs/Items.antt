-- THE ITEMS OF CONSTRAINT WORDS: their terms, counted, and that words in their places are items to the end. Assumes nothing.
use mathlib.Core.Path.{◌≡◌, refl, sym, subst, ◌∙◌}
use mathlib.Core.Logic.{◌⊎◌, inl, inr, ⊎_elim}
use mathlib.Core.Bool.{Bool, true, false, cond}
use mathlib.Core.List.{List, [], ◌∷◌}
use Prim.Native.Nat.{ℕ, zero, suc, ◌+◌, ◌-◌, ◌≤◌, ◌<◌}
use native.Mathlib.Numerals.{add-one}
use native.Mathlib.Omega.{arith}
use borrow.Author.Tests.{eq-eqb, ne_eqb, eqb-true, eqb-false}
use lib.Dec.{eqb}
use lib.IntN.{ℤ, pos}
use lib.ListN.{length, get_or, drop, drop_of_length-le}
use lib.Seq.{drop-cons}
use Rattle.std.specs.Prelude.{not, ◌==◌, count_by}
use Rattle.std.proofs.lemmas.List.Recursion.{is_count_by}
use Rattle.word.specs.Word.{kind, less_half}
use Rattle.refusal.specs.Table.{and_then}
use Rattle.refusal.specs.Table.{passed}
use Rattle.refusal.specs.declared.Refusal.TheVariants.{WrongKind}
use Rattle.refusal.proofs.Passes.{refused_fails}
use Rattle.constraint_words.specs.Reading.{has_relation, first_item, each_from, placed_from, lower_checked, term_of, terms_from}
use Rattle.constraint_words.proofs.Checking.{placed_on, placed_refused, placed_end, stands_term, stands_lower, stands_due}

-- ---- A relation has a place

pub related_long : (ws : List ℕ) → has_relation ws ≡ true → 2 ≤ length ws
related_long [] e = absurd (omega (arith, eqb-true (kind 0) 3 e))
related_long (w ∷ []) e = absurd (omega (arith, eqb-true (kind 0) 3 e))
related_long (w ∷ v ∷ ws) e = omega arith

pub first_within : (ws : List ℕ) → 0 < length ws → first_item ws ≤ length ws
first_within ws h = go (has_relation ws) (related_long ws)
  where
    go : (b : Bool) → (b ≡ true → 2 ≤ length ws) → cond b 2 1 ≤ length ws
    go true f = f refl
    go false f = h

-- ---- Terms counted

abbrev pub term_count : List ℕ → ℕ
term_count us = length (terms_from (pos 0) us)

-- their number does not depend on a lower end before them
count_any : (l m : ℤ) (us : List ℕ) → length (terms_from l us) ≡ length (terms_from m us)
unfolding terms_from
count_any l m [] = refl
count_any l m (u ∷ us) = go (eqb (kind u) 2)
  where
    go : (b : Bool) → length (cond b (terms_from (less_half u) us) (term_of l u ∷ terms_from (pos 0) us)) ≡ length (cond b (terms_from (less_half u) us) (term_of m u ∷ terms_from (pos 0) us))
    go true = refl
    go false = refl

count_lower : (u : ℕ) (us : List ℕ) → kind u ≡ 2 → term_count (u ∷ us) ≡ term_count us
unfolding terms_from
count_lower u us e = rw (eq-eqb (kind u) 2 e) (count_any (less_half u) (pos 0) us)

count_term : (u : ℕ) (us : List ℕ) → (kind u ≡ 2 → ⊥) → term_count (u ∷ us) ≡ suc (term_count us)
unfolding terms_from
count_term u us e = rw (ne_eqb (kind u) 2 e)

module _ (ws : List ℕ) (at : ℕ) (within : at < length ws) where
  pub count_past_lower : kind (get_or ws at 0) ≡ 2 → term_count (drop at ws) ≡ term_count (drop (at + 1) ws)
  count_past_lower e = rw (add-one, drop-cons ws at 0) (count_lower (get_or ws at 0) (drop (suc at) ws) e)

  pub count_past_term : (kind (get_or ws at 0) ≡ 2 → ⊥) → term_count (drop at ws) ≡ suc (term_count (drop (at + 1) ws))
  count_past_term e = rw (add-one, drop-cons ws at 0) (count_term (get_or ws at 0) (drop (suc at) ws) e)

-- how many they are, as a chain of iterators counts them
pub terms_by : (us : List ℕ) → term_count us ≡ count_by (λ w. not (kind w == 2)) us
unfolding terms_from
terms_by = is_count_by term_count (λ w. not (kind w == 2)) refl (λ u us. go u us (kind u == 2) refl)
  where
    go : (u : ℕ) (us : List ℕ) (b : Bool) → (kind u == 2) ≡ b → term_count (u ∷ us) ≡ cond (not b) (1 + term_count us) (term_count us)
    go u us true e = count_lower u us (eqb-true (kind u) 2 e)
    go u us false e = omega (arith, count_term u us (eqb-false (kind u) 2 e))

pub count_end : (ws : List ℕ) (at : ℕ) → length ws ≤ at → term_count (drop at ws) ≡ 0
unfolding terms_from
count_end ws at h = rw (drop_of_length-le ws h)

-- there are no more terms than words, and where there are as many no word is a lower end
count_most : (l : ℤ) (us : List ℕ) → length (terms_from l us) ≤ length us
unfolding terms_from
count_most l [] = omega arith
count_most l (u ∷ us) = go (eqb (kind u) 2) (count_most (less_half u) us) (count_most (pos 0) us)
  where
    go : (b : Bool) → length (terms_from (less_half u) us) ≤ length us → length (terms_from (pos 0) us) ≤ length us
        → length (cond b (terms_from (less_half u) us) (term_of l u ∷ terms_from (pos 0) us)) ≤ suc (length us)
    go true p q = omega arith
    go false p q = omega arith

pub no_lowers : (at : ℕ) (us : List ℕ) → term_count us ≡ length us → each_from lower_checked at us ≡ passed
unfolding terms_from each_from
no_lowers at [] e = refl
no_lowers at (u ∷ us) e = go (eqb (kind u) 2) refl e (count_most (less_half u) us) (λ f. no_lowers (suc at) us f)
  where
    go : (b : Bool) → eqb (kind u) 2 ≡ b → length (cond b (terms_from (less_half u) us) (term_of (pos 0) u ∷ terms_from (pos 0) us)) ≡ suc (length us)
        → length (terms_from (less_half u) us) ≤ length us → (term_count us ≡ length us → each_from lower_checked (suc at) us ≡ passed)
        → and_then (lower_checked at u) (each_from lower_checked (suc at) us) ≡ passed
    go true k e p more = absurd (omega arith)
    go false k e p more = rw k (more (omega arith))

-- ---- Items from the first place on

module _ (ws : List ℕ) (first : ℕ) where
  abbrev k : ℕ → ℕ
  k at = kind (get_or ws at 0)

  -- The words from the first item up to a place are n terms, each with its lower end where one is given.
  abbrev pub Items : ℕ → ℕ → Type 0
  Items zero at = at ≡ first
  Items (suc n) at = (b : ℕ) × Items n b × (((at ≡ suc b) × (k b ≡ 1)) ⊎ ((at ≡ suc (suc b)) × (k b ≡ 2) × (k (suc b) ≡ 1)))

  -- The same with a lower end behind them for which a term is due.
  abbrev Due : Bool → ℕ → ℕ → Type 0
  Due false n at = Items n at
  Due true n at = (b : ℕ) × Items n b × (at ≡ suc b) × (k b ≡ 2)

  one_more : (due : Bool) (n at : ℕ) → Due due n at → k at ≡ 1 → Items (suc n) (at + 1)
  one_more false n at d e = (at, d, inl (omega arith, e))
  one_more true n at (b, d, q, f) e = (b, d, inr (omega arith, f, subst (λ (x : ℕ). k x ≡ 1) q e))

  -- one word more, where the words behind it are known
  a_word : (due : Bool) (n at : ℕ) → at < length ws → Due due n at → placed_from due at (drop at ws) ≡ passed
      → ((m : ℕ) → Due false m (at + 1) → placed_from false (at + 1) (drop (at + 1) ws) ≡ passed → Items (m + term_count (drop (at + 1) ws)) (length ws))
      → ((m : ℕ) → Due true m (at + 1) → placed_from true (at + 1) (drop (at + 1) ws) ≡ passed → Items (m + term_count (drop (at + 1) ws)) (length ws))
      → Items (n + term_count (drop at ws)) (length ws)
  a_word due n at h d p behind-term behind-lower = go (eqb (k at) 1) refl (eqb (k at) 2) refl due d p
    where
      go : (t : Bool) → eqb (k at) 1 ≡ t → (l : Bool) → eqb (k at) 2 ≡ l → (due : Bool) → Due due n at → placed_from due at (drop at ws) ≡ passed → Items (n + term_count (drop at ws)) (length ws)
      go true e l f due d p =
          let one = eqb-true (k at) 1 e in
          let other : k at ≡ 2 → ⊥ = λ x. absurd (omega arith) in
          let m : suc n + term_count (drop (at + 1) ws) ≡ n + term_count (drop at ws) = omega (arith, count_past_term ws at h other) in
          let q = rw (ne_eqb (k at) 2 other) at (placed_on ws due at h (stands_term due (k at) one)) in
          subst (λ (x : ℕ). Items x (length ws)) m (behind-term (suc n) (one_more due n at d one) (sym q ∙ p))
      go false e true f false d p =
          let two = eqb-true (k at) 2 f in
          let m : n + term_count (drop (at + 1) ws) ≡ n + term_count (drop at ws) = omega (arith, count_past_lower ws at h two) in
          let q = rw f at (placed_on ws false at h (stands_lower false (k at) (eqb-false (k at) 1 e) refl ∙ f)) in
          subst (λ (x : ℕ). Items x (length ws)) m (behind-lower n (at, d, omega arith, two) (sym q ∙ p))
      go false e false f false d p = refused_fails (WrongKind at) (sym (placed_refused ws false at h (stands_lower false (k at) (eqb-false (k at) 1 e) refl ∙ f)) ∙ p)
      go false e l f true d p = refused_fails (WrongKind at) (sym (placed_refused ws true at h (stands_due true (k at) (eqb-false (k at) 1 e) refl)) ∙ p)

  no_word : (due : Bool) (n at : ℕ) → at ≡ length ws → Due due n at → placed_from due at (drop at ws) ≡ passed → Items (n + term_count (drop at ws)) (length ws)
  no_word false n at e d p = let m : n ≡ n + term_count (drop at ws) = omega (arith, count_end ws at (omega arith)) in
      subst (λ (x : ℕ). Items x (length ws)) m (subst (Items n) e d)
  no_word true n at e d p = refused_fails (WrongKind at) (sym (placed_end ws true at (omega arith)) ∙ p)

  all_items : (left : ℕ) (due : Bool) (n at : ℕ) → at + left ≡ length ws → Due due n at → placed_from due at (drop at ws) ≡ passed → Items (n + term_count (drop at ws)) (length ws)
  all_items zero due n at e d p = no_word due n at (omega arith) d p
  all_items (suc left) due n at e d p =
      a_word due n at (omega arith) d p (λ m i q. all_items left false m (at + 1) (omega arith) i q) (λ m i q. all_items left true m (at + 1) (omega arith) i q)

  -- WORDS IN THEIR PLACES are items to the end
  pub placed_items : first ≤ length ws → placed_from false first (drop first ws) ≡ passed → Items (term_count (drop first ws)) (length ws)
  placed_items h p =
      let m : 0 + term_count (drop first ws) ≡ term_count (drop first ws) = omega arith in
      subst (λ (x : ℕ). Items x (length ws)) m (all_items (length ws - first) false 0 first (omega arith) refl p)

  -- n terms take at least as many words
  pub items_from : (n at : ℕ) → Items n at → first + n ≤ at
  items_from zero at i = omega arith
  items_from (suc n) at (b, i, way) = ⊎_elim (λ w. omega (arith, w.0, items_from n b i)) (λ w. omega (arith, w.0, items_from n b i)) way
