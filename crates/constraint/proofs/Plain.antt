-- PLAIN WORDS: nothing is added to the bound, and every item is one word. Assumes nothing.
use mathlib.Core.Path.{◌≡◌, sym, ap, subst, ◌∙◌}
use mathlib.Core.Bool.{true, false}
use mathlib.Core.List.{List}
use Prim.Native.Nat.{ℕ, zero, suc, ◌+◌, ◌-◌, ◌*◌, ◌≤◌, ◌<◌}
use native.Mathlib.Omega.{arith}
use borrow.Author.Tests.{ne_eqb, lt-leb}
use lib.IntN.{sub_ℕ}
use lib.ListN.{length, get_or, set, replicate}
use Rattle.word.specs.Word.{kind, payload, half, coefficient, domain_end, negated}
use Rattle.refusal.specs.Table.{passed}
use Rattle.diagram.specs.Constraint.{most_terms, greatest_sum, most_orders}
use Rattle.inequality.specs.Base.{negative_by, shift_if}
use Rattle.constraint_bound.specs.Bound.{bound_of}
use Rattle.constraint_bound.specs.declared.Bound.TheVariants.{Natural}
use Rattle.limits.specs.Limits.{main_limits}
use Rattle.constraint_words.specs.Reading.{term_of, terms_in, relation_in, checked}
use Rattle.constraint_words.specs.Plain.{is_plain}
use Rattle.constraint_words.proofs.Laws.{checked_all}
use Rattle.constraint_words.proofs.Plain.{plain_count, plain_word, not_related, terms_count}
use Rattle.constraint_bound.specs.declared.Difference.{Difference}
use Rattle.constraint.specs.declared.making.Item.{Item}
use Rattle.constraint_bound.specs.Sums.{most_shift, Differ}
use Rattle.constraint.specs.Item.{item_before}
use Rattle.constraint_bound.proofs.Shifting.{bound_plain, bound_value, nothing, shift_none, added_nothing}
use Rattle.constraint.proofs.Made.{Made, made_none, places_known, more_fits, made_turn}

-- the bound is the payload
pub bound_own : (z : ℕ) → Natural z ≡ bound_of (sub_ℕ z 0)
bound_own z = let e : z ≡ z - 0 = omega arith in ap Natural e ∙ sym (bound_value z 0 (omega arith))

module _ (ws : List ℕ) (only : is_plain ws ≡ true) (ok : checked main_limits ws ≡ passed) where
  abbrev start : Difference
  start = record { gain = payload (get_or ws 0 0); loss = 0 }

  -- no item is in yet,
  pub plain_none : (terms : ℕ) → terms ≡ length ws - 1 → Made ws terms (replicate most_terms 0) (replicate most_terms 0) (replicate (suc most_terms) 0) 0 0 start (terms + 1) terms
  plain_none terms e =
      let n : length (terms_in ws) ≡ terms = terms_count ws only ∙ sym e in
      let m : length ws ≡ terms + 1 = omega (arith, plain_count ws only) in
      subst (λ (k : ℕ). Made ws terms (replicate most_terms 0) (replicate most_terms 0) (replicate (suc most_terms) 0) 0 0 start k terms) m
      (subst (λ (k : ℕ). Made ws k (replicate most_terms 0) (replicate most_terms 0) (replicate (suc most_terms) 0) 0 0 start (length ws) k) n (made_none ws ok start (bound_plain ws (not_related ws only))))

  module _ {terms : ℕ} {coefficients ends rests : List ℕ} {orders rest : ℕ} {at : ℕ}
      (m : Made ws terms coefficients ends rests orders rest start (at + 1) at) (some : 0 < at) where
    within : at < length ws
    within = omega (arith, (places_known ws ok m some).1)

    item_is : ◌≡◌ {A = Item} (record { at = at; lower = half }) (item_before ws (at + 1))
    item_is =
        let e : at + 1 - 2 ≡ at - 1 = omega arith in
        let f : at + 1 - 1 ≡ at = omega arith in
        sym (rw (e, ne_eqb (kind (get_or ws (at - 1) 0)) 2 (before_term at some within), f))
      where
        before_term : (at : ℕ) → 0 < at → at < length ws → kind (get_or ws (at - 1) 0) ≡ 2 → ⊥
        before_term zero s h k = absurd (omega arith)
        before_term (suc zero) s h k = let p = (checked_all main_limits ws ok).first in absurd (omega arith)
        before_term (suc (suc n)) s h k =
            let e : suc (suc n) - 1 ≡ suc n = omega arith in
            let p = plain_word ws only (suc n) (omega arith) (omega arith) in
            let q = subst (λ (i : ℕ). kind (get_or ws i 0) ≡ 2) e k in
            absurd (omega arith)

    place_is : at + 1 - 1 ≡ at
    place_is = omega arith

    -- the sums with one item more fit,
    pub plain_fits : (rest + coefficient (get_or ws at 0) * domain_end (get_or ws at 0) ≤ greatest_sum) × (orders + domain_end (get_or ws at 0) ≤ most_orders)
    plain_fits = subst (λ (i : ℕ). (rest + coefficient (get_or ws i 0) * domain_end (get_or ws i 0) ≤ greatest_sum) × (orders + domain_end (get_or ws i 0) ≤ most_orders)) place_is (more_fits ws ok m some)

    adds_nothing : Differ most_shift (shift_if (negative_by (relation_in ws) (term_of (sub_ℕ (item_before ws (at + 1)).lower half) (get_or ws (at + 1 - 1) 0))) (term_of (sub_ℕ (item_before ws (at + 1)).lower half) (get_or ws (at + 1 - 1) 0))) nothing
    adds_nothing =
        let p = plain_word ws only at (omega arith) within in
        let n : negated (get_or ws at 0) ≡ false = lt-leb half (payload (get_or ws at 0)) (omega arith) in
        rw (not_related ws only, ← item_is, place_is, n) (shift_none (get_or ws at 0))

    -- and it is in
    pub plain_turn : (a d : ℕ) → a ≡ coefficient (get_or ws at 0) → d ≡ domain_end (get_or ws at 0)
        → Made ws terms (set coefficients (at - 1) a) (set ends (at - 1) d) (set rests (at - 1) (rest + a * d)) (orders + d) (rest + a * d) start (at - 1 + 1) (at - 1)
    plain_turn a d h k =
        let e : at ≡ at - 1 + 1 = omega arith in
        subst (λ (i : ℕ). Made ws terms (set coefficients (at - 1) a) (set ends (at - 1) d) (set rests (at - 1) (rest + a * d)) (orders + d) (rest + a * d) start i (at - 1)) e
        (made_turn ws ok m some (record { at = at; lower = half }) nothing start a d item_is adds_nothing (added_nothing start)
        (h ∙ ap (λ (i : ℕ). coefficient (get_or ws i 0)) (sym place_is)) (k ∙ ap (λ (i : ℕ). domain_end (get_or ws i 0)) (sym place_is)))
