-- THE ITEM THAT ENDS BEFORE A PLACE: where it begins, and its term. Assumes nothing.
use mathlib.Core.Path.{◌≡◌, sym, subst}
use mathlib.Core.Logic.{⊎_elim}
use mathlib.Core.Bool.{false}
use mathlib.Core.List.{List, ◌∷◌}
use Prim.Native.Nat.{ℕ, zero, suc, ◌-◌, ◌≤◌, ◌<◌}
use native.Mathlib.Omega.{arith}
use borrow.Author.Tests.{eq-eqb, ne_eqb}
use lib.IntN.{pos, sub_ℕ}
use lib.ListN.{length, get_or, drop}
use lib.Seq.{drop-cons}
use Rattle.word.specs.Word.{kind, payload, half, payloads}
use Rattle.constraint_words.specs.Reading.{is_lower, term_of, terms_from}
use Rattle.constraint_words.proofs.Items.{Items, items_from}
use Rattle.constraint.specs.Item.{item_before}

module _ (ws : List ℕ) (first : ℕ) where
  abbrev k : ℕ → ℕ
  k at = kind (get_or ws at 0)

  -- What is known of the item that ends before a place.
  pub record ItemKnown (n at : ℕ) : Type 0 where
    pub items : Items ws first n (item_before ws at).at
    pub terms : terms_from (pos 0) (drop (item_before ws at).at ws) ≡ term_of (sub_ℕ (item_before ws at).lower half) (get_or ws (at - 1) 0) ∷ terms_from (pos 0) (drop at ws)
    pub lower : (item_before ws at).lower < payloads
    pub term : is_lower (get_or ws (at - 1) 0) ≡ false
    pub from : first ≤ at - 1
    pub less : (item_before ws at).at ≤ at - 1

  module _ (start : k (first - 1) ≡ 2 → ⊥) where
    -- no lower end stands right before a place up to which there are items
    not_lower : (n at : ℕ) → Items ws first n at → k (at - 1) ≡ 2 → ⊥
    not_lower zero at i e = start (subst (λ (x : ℕ). k (x - 1) ≡ 2) i e)
    not_lower (suc n) at (b, i, way) e =
        ⊎_elim
        (λ w. let p : at - 1 ≡ b = omega (arith, w.0) in let q = subst (λ (x : ℕ). k x ≡ 2) p e in absurd (omega (arith, q, w.1)))
        (λ w. let p : at - 1 ≡ suc b = omega (arith, w.0) in let q = subst (λ (x : ℕ). k x ≡ 2) p e in absurd (omega (arith, q, w.2)))
        way

    -- a term without a lower end
    before_plain : (n b : ℕ) → 1 ≤ first → Items ws first n b → k b ≡ 1 → suc b ≤ length ws → ItemKnown n (suc b)
    unfolding terms_from
    before_plain n b some i one h =
        let e : suc b - 2 ≡ b - 1 = omega arith in
        let f : suc b - 1 ≡ b = omega arith in
        let m : k b ≡ 2 → ⊥ = λ x. absurd (omega arith) in
        let is : item_before ws (suc b) ≡ record { at = b; lower = half } = rw (e, ne_eqb (k (b - 1)) 2 (not_lower n b i), f) in
        record {
          items = rw is i;
          terms = rw (is, f, drop-cons ws b 0 h, ne_eqb (k b) 2 m);
          lower = rw is (omega arith);
          term = rw (f, ne_eqb (k b) 2 m);
          from = rw f (omega (arith, items_from ws first n b i));
          less = rw is (omega arith);
        }

    -- a term with its lower end
    before_lowered : (n b : ℕ) → 1 ≤ first → Items ws first n b → k b ≡ 2 → k (suc b) ≡ 1 → suc (suc b) ≤ length ws → ItemKnown n (suc (suc b))
    unfolding terms_from
    before_lowered n b some i two one h =
        let e : suc (suc b) - 2 ≡ b = omega arith in
        let f : suc (suc b) - 1 ≡ suc b = omega arith in
        let m : k (suc b) ≡ 2 → ⊥ = λ x. absurd (omega arith) in
        let g : b < length ws = omega arith in
        let is : item_before ws (suc (suc b)) ≡ record { at = b; lower = payload (get_or ws b 0) } = rw (e, eq-eqb (k b) 2 two, e) in
        record {
          items = rw is i;
          terms = rw (is, f, drop-cons ws b 0 g, eq-eqb (k b) 2 two, drop-cons ws (suc b) 0 h, ne_eqb (k (suc b)) 2 m);
          lower = rw is (omega arith);
          term = rw (f, ne_eqb (k (suc b)) 2 m);
          from = rw f (omega (arith, items_from ws first n b i));
          less = rw is (omega arith);
        }

    pub item_known : (n at : ℕ) → 1 ≤ first → Items ws first (suc n) at → at ≤ length ws → ItemKnown n at
    item_known n at some (b, i, way) h =
        ⊎_elim
        (λ w. subst (ItemKnown n) (sym w.0) (before_plain n b some i w.1 (omega (arith, w.0))))
        (λ w. subst (ItemKnown n) (sym w.0) (before_lowered n b some i w.1 w.2 (omega (arith, w.0))))
        way
