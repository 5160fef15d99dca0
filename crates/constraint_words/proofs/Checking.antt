-- The check, step by step: of each word from one place to the next, and of all words part by part. By the definitions, with the list split
-- at a place. Assumes nothing.
use mathlib.Core.Path.{◌≡◌, refl, sym, subst, ◌∙◌}
use mathlib.Core.Bool.{Bool, true, false, not, cond, ◌&&◌, ◌||◌}
use mathlib.Core.List.{List, [], ◌∷◌}
use Prim.Native.Nat.{ℕ, zero, suc, ◌+◌, ◌-◌, ◌≤◌, ◌<◌}
use native.Mathlib.Numerals.{add-one}
use native.Mathlib.Omega.{arith}
use borrow.Author.Tests.{le-leb, lt-leb, le-ltb, lt-ltb, eq-eqb, ne_eqb}
use lib.Dec.{eqb}
use lib.IntN.{nat_abs, sub_ℕ}
use lib.ListN.{length, get_or, drop, drop_of_length-le}
use lib.Seq.{drop-cons}
use Rattle.word.specs.Word.{kind, payload, half}
use Rattle.refusal.specs.Table.{and_then, unless}
use Rattle.refusal.specs.declared.Refusal.{Refusal}
use Rattle.refusal.specs.Table.{Checked}
use Rattle.refusal.specs.declared.Refusal.TheVariants.{NoWords, WrongKind, TermCount, WrongRelation}
use Rattle.std.specs.Prelude.{Err}
use Rattle.refusal.specs.Table.{passed}
use Rattle.refusal.proofs.Passes.{both_passed}
use Rattle.limits.specs.declared.Limits.{Limits}
use Rattle.limits.specs.Limits.{term_limit}
use Rattle.constraint_words.specs.Reading.{up_to, has_relation, first_item, items, each_from, can_stand, placed_from, relation_checked, lower_checked, count_checked, term_checked, terms_in, items_checked, checked}

-- One word more: its check, and then that of the words behind it.
each_step : (check : ℕ → ℕ → Checked) (ws : List ℕ) (at : ℕ) → at < length ws
    → each_from check at (drop at ws) ≡ and_then (check at (get_or ws at 0)) (each_from check (at + 1) (drop (at + 1) ws))
unfolding each_from
each_step check ws at h = rw (add-one, drop-cons ws at 0)

-- The word at a place passes: the check goes on behind it.
pub each_passed : (check : ℕ → ℕ → Checked) (ws : List ℕ) (at : ℕ) → at < length ws → check at (get_or ws at 0) ≡ passed
    → each_from check at (drop at ws) ≡ each_from check (at + 1) (drop (at + 1) ws)
each_passed check ws at h e = rw (each_step check ws at h, e)

-- It is refused: so are the words.
pub each_refused : (check : ℕ → ℕ → Checked) (ws : List ℕ) (at : ℕ) (x : Refusal) → at < length ws → check at (get_or ws at 0) ≡ Err x
    → each_from check at (drop at ws) ≡ Err x
each_refused check ws at x h e = rw (each_step check ws at h, e)

-- No word is left.
pub each_end : (check : ℕ → ℕ → Checked) (ws : List ℕ) (at : ℕ) → length ws ≤ at → each_from check at (drop at ws) ≡ passed
unfolding each_from
each_end check ws at h = rw (drop_of_length-le ws h)

-- Words that all pass: so does each.
pub each_at : (check : ℕ → ℕ → Checked) (ws : List ℕ) (at p : ℕ) → at ≤ p → p < length ws → each_from check at (drop at ws) ≡ passed → check p (get_or ws p 0) ≡ passed
each_at check ws at p h k e = go (p - at) at (omega arith) e
  where
    go : (n at : ℕ) → p ≡ at + n → each_from check at (drop at ws) ≡ passed → check p (get_or ws p 0) ≡ passed
    go zero at q e =
        let f : at ≡ p = omega arith in
        subst (λ (x : ℕ). check x (get_or ws x 0) ≡ passed) f (both_passed (check at (get_or ws at 0)) _ (sym (each_step check ws at (omega arith)) ∙ e)).0
    go (suc n) at q e = go n (at + 1) (omega arith) (both_passed (check at (get_or ws at 0)) _ (sym (each_step check ws at (omega arith)) ∙ e)).1

-- A number is from 1 to n, or below, or above.
pub up_to_in : (n x : ℕ) → 1 ≤ x → x ≤ n → up_to n x ≡ true
up_to_in n x h k = rw (le-leb 1 x h, le-leb x n k)

pub up_to_below : (n x : ℕ) → x < 1 → up_to n x ≡ false
up_to_below n x h = rw (lt-leb 1 x h)

pub up_to_above : (n x : ℕ) → 1 ≤ x → n < x → up_to n x ≡ false
up_to_above n x h k = rw (le-leb 1 x h, lt-leb x n k)

-- ---- Refusal 2, word by word

placed_step : (ws : List ℕ) (due : Bool) (at : ℕ) → at < length ws
    → placed_from due at (drop at ws)
    ≡ and_then (unless (can_stand due (kind (get_or ws at 0))) (WrongKind at)) (placed_from (eqb (kind (get_or ws at 0)) 2) (at + 1) (drop (at + 1) ws))
unfolding placed_from
placed_step ws due at h = rw (add-one, drop-cons ws at 0)

module _ (ws : List ℕ) (due : Bool) (at : ℕ) (within : at < length ws) where
  abbrev k : ℕ
  k = kind (get_or ws at 0)

  pub placed_on : can_stand due k ≡ true → placed_from due at (drop at ws) ≡ placed_from (eqb k 2) (at + 1) (drop (at + 1) ws)
  placed_on e = rw (placed_step ws due at within, e)

  pub placed_refused : can_stand due k ≡ false → placed_from due at (drop at ws) ≡ Err (WrongKind at)
  placed_refused e = rw (placed_step ws due at within, e)

pub placed_end : (ws : List ℕ) (due : Bool) (at : ℕ) → length ws ≤ at → placed_from due at (drop at ws) ≡ unless (not due) (WrongKind at)
unfolding placed_from
placed_end ws due at h = rw (drop_of_length-le ws h)

-- which words can stand
pub stands_term : (due : Bool) (n : ℕ) → n ≡ 1 → can_stand due n ≡ true
stands_term due n e = rw (eq-eqb n 1 e)

pub stands_lower : (due : Bool) (n : ℕ) → (n ≡ 1 → ⊥) → due ≡ false → can_stand due n ≡ eqb n 2
stands_lower due n e f = rw (ne_eqb n 1 e, f) (go (eqb n 2))
  where
    go : (b : Bool) → b && true ≡ b
    go true = refl
    go false = refl

pub stands_due : (due : Bool) (n : ℕ) → (n ≡ 1 → ⊥) → due ≡ true → can_stand due n ≡ false
stands_due due n e f = rw (ne_eqb n 1 e, f) (go (eqb n 2))
  where
    go : (b : Bool) → b && false ≡ false
    go true = refl
    go false = refl

-- ---- The check, part by part: no words; and where there are words, of the first one, and of the items' places

module _ (l : Limits) where
  pub checked_none : (ws : List ℕ) → length ws ≡ 0 → checked l ws ≡ Err NoWords
  unfolding checked
  checked_none [] h = refl
  checked_none (w ∷ ws) h = absurd (omega arith)

  checked_parts : (ws : List ℕ) → 0 < length ws
      → checked l ws ≡ and_then (unless (eqb (kind (get_or ws 0 0)) 0) (WrongKind 0)) (and_then (placed_from false (first_item ws) (items ws)) (items_checked l ws))
  unfolding checked
  checked_parts [] h = absurd (omega arith)
  checked_parts (w ∷ ws) h = refl

  module _ (ws : List ℕ) (some : 0 < length ws) where
    pub checked_first : (kind (get_or ws 0 0) ≡ 0 → ⊥) → checked l ws ≡ Err (WrongKind 0)
    checked_first n = rw (checked_parts ws some, ne_eqb (kind (get_or ws 0 0)) 0 n)

    module _ (first : kind (get_or ws 0 0) ≡ 0) where
      pub checked_places : (x : Refusal) → placed_from false (first_item ws) (items ws) ≡ Err x → checked l ws ≡ Err x
      checked_places x e = rw (checked_parts ws some, eq-eqb (kind (get_or ws 0 0)) 0 first, e)

      pub checked_items : placed_from false (first_item ws) (items ws) ≡ passed → checked l ws ≡ items_checked l ws
      checked_items e = rw (checked_parts ws some, eq-eqb (kind (get_or ws 0 0)) 0 first, e)

-- ---- Of the items: the relation, the lower ends, the number of terms, and each term

pub first_one : (ws : List ℕ) → (first_item ws ≡ 2 → ⊥) → has_relation ws ≡ false
first_one ws e = go (has_relation ws) e
  where
    go : (b : Bool) → (◌≡◌ {A = ℕ} (cond b 2 1) 2 → ⊥) → b ≡ false
    go true e = absurd (e refl)
    go false e = refl

-- how far a lower end's payload is from 0
module _ (p : ℕ) where
  abbrev far : ℕ
  far = nat_abs (sub_ℕ p half)

  pub below_is : p < half → far ≡ suc (half - suc p)
  below_is h = rw (lt-ltb p half h)

  pub above_is : half ≤ p → far ≡ p - half
  above_is h = rw (le-ltb p half h)

-- no relation, or one of the four
pub relation_none : (ws : List ℕ) → has_relation ws ≡ false → relation_checked ws ≡ passed
relation_none ws e = rw e

pub relation_few : (ws : List ℕ) → payload (get_or ws 1 0) ≤ 3 → relation_checked ws ≡ passed
relation_few ws h = rw (le-leb (payload (get_or ws 1 0)) 3 h) (go (has_relation ws))
  where
    go : (b : Bool) → unless (not b || true) (WrongRelation 1) ≡ passed
    go true = refl
    go false = refl

module _ (l : Limits) (ws : List ℕ) (relation : relation_checked ws ≡ passed) where
  module _ (lowers : each_from lower_checked (first_item ws) (items ws) ≡ passed) where
    pub items_3 : up_to (term_limit l) (length (terms_in ws)) ≡ false → items_checked l ws ≡ Err (TermCount (length ws))
    items_3 e = rw (relation, lowers, e)

    pub items_terms : up_to (term_limit l) (length (terms_in ws)) ≡ true → items_checked l ws ≡ each_from term_checked (first_item ws) (items ws)
    items_terms e = rw (relation, lowers, e)

    -- the same, where the number of terms is checked by itself
    pub items_count : (x : Refusal) → count_checked l (length ws) (length (terms_in ws)) ≡ Err x → items_checked l ws ≡ Err x
    items_count x e = rw (relation, lowers, e)

    pub items_rest : count_checked l (length ws) (length (terms_in ws)) ≡ passed → items_checked l ws ≡ each_from term_checked (first_item ws) (items ws)
    items_rest e = rw (relation, lowers, e)
