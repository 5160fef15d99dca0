-- THE RECORD MADE FROM WORDS, item by item from the last to the first: what holds when the items from a place on are in, of none, of one more and of all.
-- Assumes nothing.
use mathlib.Core.Path.{◌≡◌, refl, ap, sym, subst, ◌∙◌}
use mathlib.Core.Bool.{Bool, true, false, cond}
use mathlib.Core.List.{List, [], map}
use Prim.Native.Nat.{ℕ, suc, ◌+◌, ◌-◌, ◌*◌, ◌≤◌, ◌<◌}
use native.Mathlib.Omega.{arith}
use borrow.Author.Tests.{eqb-true}
use lib.IntN.{ℤ, pos, sub_ℕ, ◌+ℤ◌, +ℤ_assoc, +ℤ_comm, +ℤ_idr}
use lib.ListN.{length, get_or, drop, set, replicate, length-map, drop_of_length-le}
use Rattle.word.specs.Word.{kind, half, coefficient, domain_end, negated}
use Rattle.refusal.specs.Table.{passed}
use Rattle.diagram.specs.Constraint.{Term, AllLimited, most_terms, greatest_sum, most_orders}
use Rattle.inequality.specs.Written.{SignedTerm}
use Rattle.inequality.specs.Base.{bound_by, negative_by, shift_if, shifts, base_term, turned_by, sign_if}
use Rattle.inequality.proofs.Differences.{Is, is_same, is_add}
use Rattle.constraint.specs.declared.Constraint.{Constraint as Held}
use Rattle.constraint_bound.specs.declared.Difference.{Difference}
use Rattle.constraint_bound.specs.declared.Bound.{Bound}
use Rattle.constraint.specs.declared.making.Item.{Item}
use Rattle.limits.specs.Limits.{main_limits}
use Rattle.constraint_words.specs.Reading.{has_relation, first_item, term_checked, term_of, terms_from, terms_in, relation_in, bound_in, checked, as_written, stated}
use Rattle.constraint.specs.Held.{held_of}
use Rattle.constraint.specs.Filling.{begun, with_level}
use Rattle.constraint_bound.specs.Bound.{bound_of}
use Rattle.constraint_bound.specs.Sums.{most_bound, most_shift, most_sum, Differ, added}
use Rattle.constraint.specs.Item.{item_before}
use Rattle.constraint_words.proofs.Laws.{AllPassed, checked_all, term_limited, up_to_lem}
use Rattle.constraint_words.proofs.Checking.{each_at}
use Rattle.constraint_words.proofs.Items.{Items, items_from, placed_items, first_within}
use Rattle.constraint.proofs.Before.{ItemKnown, item_known}
use Rattle.constraint.proofs.Filling.{FilledFrom, filled_none, filled_next, Complete, filled_all, rest_first}
use Rattle.constraint.proofs.Laws.{sums_fit}
use Rattle.constraint_bound.proofs.Shifting.{sub_is, differ_is}

-- sums that fit with a word's coefficient and domain end fit with what the code read as these
pub fits_as : (rest orders : ℕ) {x y coefficient' end : ℕ} → coefficient' ≡ x → end ≡ y → (rest + x * y ≤ greatest_sum) × (orders + y ≤ most_orders)
    → (rest + coefficient' * end ≤ greatest_sum) × (orders + end ≤ most_orders)
fits_as rest orders e f h = rw (e, f) h

-- The terms of the items from a place on, in the base form.
abbrev pub terms_at : List ℕ → ℕ → List SignedTerm
terms_at ws at = terms_from (pos 0) (drop at ws)

abbrev pub base_at : List ℕ → ℕ → List Term
base_at ws at = map base_term (terms_at ws at)

-- The base bound so far: the shifts of those terms are in it.
abbrev pub bound_at : List ℕ → ℕ → ℤ
bound_at ws at = bound_by (relation_in ws) (bound_in ws) +ℤ shifts (relation_in ws) (terms_at ws at)

-- THE INVARIANT: the items from a place on are in, and as many levels are left as there are terms before it.
pub record Made (ws : List ℕ) (terms : ℕ) (coefficients ends rests : List ℕ) (orders rest : ℕ) (p : Difference) (at level : ℕ) : Type 0 where
  pub within : at ≤ length ws
  pub left : Items ws (first_item ws) level at
  pub count : level + length (terms_at ws at) ≡ terms
  pub few : terms ≤ most_terms
  pub limited : AllLimited (base_at ws at)
  pub filled : FilledFrom (base_at ws at) terms coefficients ends rests orders rest level
  pub bound : Is (bound_at ws at) p.gain p.loss
  pub gain_fits : p.gain ≤ most_bound + most_shift * length (terms_at ws at)
  pub loss_fits : p.loss ≤ most_bound + most_shift * length (terms_at ws at)

-- The same of the record that is being made.
abbrev pub Making : List ℕ → Held → Difference → ℕ → ℕ → Type 0
Making ws r p at level = Made ws r.terms r.coefficients r.ends r.rests r.orders (get_or r.rests level 0) p at level

own_rest : {ws : List ℕ} {terms : ℕ} {coefficients ends rests : List ℕ} {orders rest : ℕ} {p : Difference} {at level : ℕ}
    → Made ws terms coefficients ends rests orders rest p at level → Made ws terms coefficients ends rests orders (get_or rests level 0) p at level
own_rest {ws} {terms} {coefficients} {ends} {rests} {orders} {rest} {p} {at} {level} m =
    subst (λ (n : ℕ). Made ws terms coefficients ends rests orders n p at level) (sym (rest_first m.filled)) m

pub making_none : {ws : List ℕ} {n : ℕ} {p : Difference} {at : ℕ} (b : Bound) (r : Held) → r ≡ begun b n
    → Made ws n (replicate most_terms 0) (replicate most_terms 0) (replicate (suc most_terms) 0) 0 0 p at n → Making ws r p at n
making_none {ws} {n} {p} {at} b r is m = subst (λ (x : Held). Making ws x p at n) (sym is) (own_rest m)

pub making_next : {ws : List ℕ} {q : Difference} {x level : ℕ} (a d : ℕ) (r s : Held) → 0 < level → s ≡ with_level r (level - 1) a d
    → Made ws r.terms (set r.coefficients (level - 1) a) (set r.ends (level - 1) d) (set r.rests (level - 1) (get_or r.rests level 0 + a * d)) (r.orders + d) (get_or r.rests level 0 + a * d) q x (level - 1)
    → Making ws s q x (level - 1)
making_next {ws} {q} {x} {level} a d r s some is m =
    let e : level ≡ level - 1 + 1 = omega arith in
    subst (λ (y : Held). Making ws y q x (level - 1)) (sym is)
    (own_rest (subst (λ (n : ℕ). Made ws r.terms (set r.coefficients (level - 1) a) (set r.ends (level - 1) d) (set r.rests (level - 1) (get_or r.rests n 0 + a * d)) (r.orders + d) (get_or r.rests n 0 + a * d) q x (level - 1)) e m))

-- what `put` asks
pub put_fits : {level : ℕ} (a d : ℕ) (r : Held) → 0 < level → level ≤ most_terms → (get_or r.rests level 0 + a * d ≤ greatest_sum) × (r.orders + d ≤ most_orders)
    → (level - 1 < most_terms) × (r.orders + d ≤ most_orders) × (get_or r.rests (level - 1 + 1) 0 + a * d ≤ greatest_sum)
put_fits {level} a d r some h f =
    let e : level ≡ level - 1 + 1 = omega arith in
    (omega arith, f.1, subst (λ (n : ℕ). get_or r.rests n 0 + a * d ≤ greatest_sum) e f.0)

module _ (ws : List ℕ) (ok : checked main_limits ws ≡ passed) where
  passed_all : AllPassed main_limits ws
  passed_all = checked_all main_limits ws ok

  count_known : (1 ≤ length (terms_in ws)) × (length (terms_in ws) ≤ most_terms)
  count_known = up_to_lem most_terms (length (terms_in ws)) passed_all.count

  first_some : 1 ≤ first_item ws
  first_some = go (has_relation ws)
    where
      go : (b : Bool) → 1 ≤ cond b 2 1
      go true = omega arith
      go false = omega arith

  -- the bound and the relation are no lower ends
  no_lower_first : kind (get_or ws (first_item ws - 1) 0) ≡ 2 → ⊥
  no_lower_first = go (has_relation ws) refl
    where
      go : (b : Bool) → has_relation ws ≡ b → kind (get_or ws (cond b 2 1 - 1) 0) ≡ 2 → ⊥
      go true e h = absurd (omega (arith, eqb-true (kind (get_or ws 1 0)) 3 e))
      go false e h = absurd (omega (arith, passed_all.first))

  -- No item is in yet.
  pub made_none : (p : Difference) → Differ most_bound (bound_by (relation_in ws) (bound_in ws)) p
      → Made ws (length (terms_in ws)) (replicate most_terms 0) (replicate most_terms 0) (replicate (suc most_terms) 0) 0 0 p (length ws) (length (terms_in ws))
  unfolding terms_from
  made_none p d =
      let h : length ws ≤ length ws = omega arith in
      let e : drop (length ws) ws ≡ [] = drop_of_length-le ws h in
      let b = bound_by (relation_in ws) (bound_in ws) in
      record {
        within = h;
        left = placed_items ws (first_item ws) (first_within ws passed_all.some) passed_all.placed;
        count = rw e (omega arith);
        few = count_known.1;
        limited = rw e tt;
        filled = rw e (filled_none (length (terms_in ws)) count_known.1);
        bound = rw (e, +ℤ_idr b) (differ_is d);
        gain_fits = omega (arith, d.gain_fits);
        loss_fits = omega (arith, d.loss_fits);
      }

  module _ {terms : ℕ} {coefficients ends rests : List ℕ} {orders rest : ℕ} {p : Difference} {at level : ℕ}
      (m : Made ws terms coefficients ends rests orders rest p at level) (some : 0 < level) where
    abbrev w : ℕ
    w = get_or ws (at - 1) 0

    abbrev x : ℕ
    x = (item_before ws at).at

    abbrev t : SignedTerm
    t = term_of (sub_ℕ (item_before ws at).lower half) w

    pub item_before_lem : ItemKnown ws (first_item ws) (level - 1) at
    item_before_lem =
        let e : level ≡ suc (level - 1) = omega arith in
        item_known ws (first_item ws) no_lower_first (level - 1) at first_some (subst (λ (n : ℕ). Items ws (first_item ws) n at) e m.left) m.within

    one_more : length (terms_at ws x) ≡ suc (length (terms_at ws at))
    one_more = ap length item_before_lem.terms

    limited_more : AllLimited (base_at ws x)
    limited_more =
        rw item_before_lem.terms (
          term_limited (sub_ℕ (item_before ws at).lower half) (at - 1) w item_before_lem.term
              (each_at term_checked ws (first_item ws) (at - 1) item_before_lem.from (omega (arith, m.within, item_before_lem.from, first_some)) passed_all.terms),
          m.limited,
        )

    -- its sums fit,
    pub more_fits : (rest + coefficient w * domain_end w ≤ greatest_sum) × (orders + domain_end w ≤ most_orders)
    more_fits =
        let f = m.filled in
        let s = sums_fit (base_at ws x) limited_more (rw length-map (omega (arith, one_more, m.count, m.few))) in
        let q = rw item_before_lem.terms at s in
        (omega (arith, q.0, f.sum), omega (arith, q.1, f.count))

    bound_more : (q : Difference) → Differ most_shift (shift_if (negative_by (relation_in ws) t) t) q → Is (bound_at ws x) (p.gain + q.gain) (p.loss + q.loss)
    bound_more q d =
        let b = bound_by (relation_in ws) (bound_in ws) in
        let s = shift_if (negative_by (relation_in ws) t) t in
        let u = shifts (relation_in ws) (terms_at ws at) in
        let e : b +ℤ u +ℤ s ≡ bound_at ws x = +ℤ_assoc b u s ∙ ap (λ (z : ℤ). b +ℤ z) (+ℤ_comm u s) ∙ ap (λ (ts : List SignedTerm). b +ℤ shifts (relation_in ws) ts) (sym item_before_lem.terms) in
        subst (λ (z : ℤ). Is z (p.gain + q.gain) (p.loss + q.loss)) e (is_add (b +ℤ u) s p.gain p.loss q.gain q.loss m.bound (differ_is d))

    -- and so do the bound's,
    pub bound_fits : (p.gain ≤ most_sum) × (p.loss ≤ most_sum)
    bound_fits =
        let n : length (terms_at ws at) ≤ most_terms = omega (arith, m.count, m.few) in
        (omega (arith, m.gain_fits), omega (arith, m.loss_fits))

    -- and it is in.
    pub made_next : (q : Difference) → Differ most_shift (shift_if (negative_by (relation_in ws) t) t) q
        → Made ws terms (set coefficients (level - 1) (coefficient w)) (set ends (level - 1) (domain_end w)) (set rests (level - 1) (rest + coefficient w * domain_end w))
        (orders + domain_end w) (rest + coefficient w * domain_end w) (added p q) x (level - 1)
    made_next q d =
        record {
          within = omega (arith, item_before_lem.less, m.within);
          left = item_before_lem.items;
          count = omega (arith, one_more, m.count);
          few = m.few;
          limited = limited_more;
          filled = rw item_before_lem.terms (filled_next m.filled some);
          bound = bound_more q d;
          gain_fits = omega (arith, one_more, m.gain_fits, d.gain_fits);
          loss_fits = omega (arith, one_more, m.loss_fits, d.loss_fits);
        }

    -- The same in the words of the code: the item and the sums as its functions give them.
    pub places_known : (2 ≤ at) × (at ≤ length ws) × (level ≤ most_terms)
    places_known = let f = items_from ws (first_item ws) level at m.left in (omega (arith, first_some), m.within, omega (arith, m.count, m.few))

    pub shift_known : (i : Item) (negative turned : Bool) (q : Difference) → i ≡ item_before ws at → negative ≡ sign_if turned (negated w) → turned ≡ turned_by (relation_in ws)
        → Differ most_shift (shift_if negative (term_of (sub_ℕ i.lower half) w)) q → Differ most_shift (shift_if (negative_by (relation_in ws) t) t) q
    shift_known i negative turned q e f g d =
        let n : negative ≡ negative_by (relation_in ws) t = f ∙ ap (λ (b : Bool). sign_if b (negated w)) g in
        rw (n, e) at d

    pub made_turn : (i : Item) (q s : Difference) (a d : ℕ) → i ≡ item_before ws at → Differ most_shift (shift_if (negative_by (relation_in ws) t) t) q
        → s ≡ added p q → a ≡ coefficient w → d ≡ domain_end w
        → Made ws terms (set coefficients (level - 1) a) (set ends (level - 1) d) (set rests (level - 1) (rest + a * d)) (orders + d) (rest + a * d) s i.at (level - 1)
    made_turn i q s a d e f g h k = rw (e, g, h, k) (made_next q f)

  -- All items are in: the record is that of the constraint.
  pub made_all : {terms : ℕ} {coefficients ends rests : List ℕ} {orders rest : ℕ} {p : Difference} {at level : ℕ} (b : Bound)
      → Made ws terms coefficients ends rests orders rest p at level → level ≡ 0 → b ≡ bound_of (sub_ℕ p.gain p.loss)
      → ◌≡◌ {A = Held} (record {
        bound = b;
        terms = terms;
        orders = orders;
        coefficients = coefficients;
        ends = ends;
        rests = rests;
      }) (held_of (stated ws))
  unfolding held_of stated as_written
  made_all {terms} {coefficients} {ends} {rests} {orders} {rest} {p} {at} {level} b m done is =
      let first : at ≡ first_item ws = subst (λ (n : ℕ). Items ws (first_item ws) n at) done m.left in
      let us : terms_at ws at ≡ terms_in ws = ap (terms_at ws) first in
      let ts : base_at ws at ≡ map base_term (terms_in ws) = ap (map base_term) us in
      let n : length (base_at ws at) ≡ terms = length-map (terms_at ws at) base_term ∙ omega (arith, m.count) in
      let c : Complete (map base_term (terms_in ws)) coefficients ends rests orders rest =
      subst (λ (xs : List Term). Complete xs coefficients ends rests orders rest) ts (filled_all m.filled done n) in
      let z : sub_ℕ p.gain p.loss ≡ (stated ws).bound =
      is_same (sub_ℕ p.gain p.loss) (bound_at ws at) p.gain p.loss p.gain p.loss (sub_is p.gain p.loss) m.bound refl
      ∙ ap (λ (xs : List SignedTerm). bound_by (relation_in ws) (bound_in ws) +ℤ shifts (relation_in ws) xs) us in
      let f : b ≡ bound_of (stated ws).bound = is ∙ ap bound_of z in
      let k : terms ≡ length (map base_term (terms_in ws)) = sym n ∙ ap length ts in
      let g = c.count in
      let h = c.coefs in
      let i = c.doms in
      let j = c.sums in
      λ y. record {
        bound = f y;
        terms = k y;
        orders = g y;
        coefficients = h y;
        ends = i y;
        rests = j y;
      }
