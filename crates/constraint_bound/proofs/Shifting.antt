-- THE BASE BOUND as the difference of two sums: what the shift of a term adds, the bound by its relation, and its value. Assumes nothing.
use mathlib.Core.Path.{◌≡◌, refl, sym, subst}
use mathlib.Core.Bool.{Bool, true, false, not, ◌&&◌}
use mathlib.Core.List.{List}
use Prim.Native.Nat.{ℕ, zero, suc, ◌+◌, ◌-◌, ◌*◌, ◌≤◌, ◌<◌}
use native.Mathlib.Nat.{mul-le-mul}
use native.Mathlib.Omega.{arith}
use borrow.Author.Tests.{lt-ltb, le-ltb, le-leb, eqb-true}
use lib.Dec.{leb, eqb}
use lib.IntN.{ℤ, pred_ℤ, neg_ℤ, sub_ℕ}
use lib.ListN.{get_or}
use Rattle.word.specs.Word.{payload, half, coefficient, domain_end, payloads}
use Rattle.diagram.specs.Constraint.{last_coefficient}
use Rattle.inequality.specs.Written.{greater_than, SignedTerm}
use Rattle.inequality.specs.Base.{bound_by, shift_if, turned_by}
use Rattle.inequality.proofs.Alike.{shift_by_lower, shift_by_upper}
use Rattle.inequality.proofs.Differences.{Is, is_sub, is_same, is_also, is_neg, is_pred}
use Rattle.constraint_bound.specs.declared.Difference.{Difference}
use Rattle.constraint_bound.specs.declared.Bound.TheVariants.{Negative, Natural}
use Rattle.constraint_words.specs.Reading.{has_relation, relation_of, relation_in, bound_in, term_of}
use Rattle.constraint_bound.specs.Bound.{bound_of}
use Rattle.constraint_bound.specs.Sums.{most_bound, most_shift, Differ, added}

-- ---- Differences of sums

pub sub_is : (a b : ℕ) → Is (sub_ℕ a b) a b
sub_is a b = is_sub a b a b refl

differ : {n : ℕ} {z : ℤ} {p : Difference} → Is z p.gain p.loss → p.gain ≤ n → p.loss ≤ n → Differ n z p
differ {n} {z} {p} e h k =
    record { is = is_same (sub_ℕ p.gain p.loss) z p.gain p.loss p.gain p.loss (sub_is p.gain p.loss) e refl; gain_fits = h; loss_fits = k }

pub differ_is : {n : ℕ} {z : ℤ} {p : Difference} → Differ n z p → Is z p.gain p.loss
differ_is {n} {z} {p} d = subst (λ (x : ℤ). Is x p.gain p.loss) d.is (sub_is p.gain p.loss)

-- ---- The shift of a term

-- the products fit
product_fits : (w n : ℕ) → n ≤ payloads + 8191 → coefficient w * n ≤ most_shift
product_fits w n h =
    let c : coefficient w ≤ last_coefficient = omega arith in
    let p : coefficient w * n ≤ last_coefficient * (payloads + 8191) = mul-le-mul c h in omega arith

module _ (w lower : ℕ) (small : lower < payloads) where
  abbrev t : SignedTerm
  t = term_of (sub_ℕ lower half) w

  pub up_fits : coefficient w * lower ≤ most_shift
  up_fits = product_fits w lower (omega arith)

  pub down_fits : coefficient w * (lower + domain_end w) ≤ most_shift
  down_fits = product_fits w (lower + domain_end w) (omega arith)

  pub shift_up : Differ most_shift (shift_if false t) (record { gain = coefficient w * half; loss = coefficient w * lower })
  shift_up = differ (shift_by_lower t lower half (sub_is lower half)) (product_fits w half (omega arith)) up_fits

  pub shift_down : Differ most_shift (shift_if true t) (record { gain = coefficient w * (lower + domain_end w); loss = coefficient w * half })
  shift_down = differ (shift_by_upper t lower half (sub_is lower half)) down_fits (product_fits w half (omega arith))

-- a plain term's shift adds nothing
abbrev pub nothing : Difference
nothing = record { gain = 0; loss = 0 }

pub shift_none : (w : ℕ) → Differ most_shift (shift_if false (term_of (sub_ℕ half half) w)) nothing
shift_none w =
    differ (is_also (shift_if false (term_of (sub_ℕ half half) w)) (coefficient w * half) (coefficient w * half) 0 0 (differ_is (shift_up w half (omega arith))) (omega arith))
    (omega arith) (omega arith)

pub added_nothing : (p : Difference) → p ≡ added p nothing
added_nothing p =
    let g : p.gain ≡ p.gain + 0 = omega arith in
    let l : p.loss ≡ p.loss + 0 = omega arith in
    λ i. record { gain = g i; loss = l i }

pub shifted_plain : (p : Difference) (negative : Bool) (w lower : ℕ) → (not negative && eqb lower half) ≡ true
    → (q : Difference) × Differ most_shift (shift_if negative (term_of (sub_ℕ lower half) w)) q × (p ≡ added p q)
shifted_plain p true w lower e = let z : ◌≡◌ {A = ℕ} 0 1 = cc in absurd (omega arith)
shifted_plain p false w lower e =
    let is = eqb-true lower half e in
    (nothing, subst (λ (x : ℕ). Differ most_shift (shift_if false (term_of (sub_ℕ x half) w)) nothing) (sym is) (shift_none w), added_nothing p)

-- ---- The bound, by its relation

relation_last : (n : ℕ) → (n ≡ 0 → ⊥) → (n ≡ 1 → ⊥) → (n ≡ 2 → ⊥) → relation_of n ≡ greater_than
relation_last zero a b c = absurd (a refl)
relation_last (suc zero) a b c = absurd (b refl)
relation_last (suc (suc zero)) a b c = absurd (c refl)
relation_last (suc (suc (suc n))) a b c = refl

module _ (ws : List ℕ) where
  abbrev b : ℕ
  b = payload (get_or ws 0 0)

  abbrev r : ℕ
  r = payload (get_or ws 1 0)

  abbrev bound : ℤ
  bound = bound_by (relation_in ws) (bound_in ws)

  pub bound_plain : has_relation ws ≡ false → Differ most_bound bound (record { gain = b; loss = 0 })
  bound_plain e = rw e (differ (omega arith) (omega arith) (omega arith))

  module _ (e : has_relation ws ≡ true) where
    whole_is : Is (sub_ℕ b half) b half
    whole_is = sub_is b half

    pub bound_0 : r ≡ 0 → Differ most_bound bound (record { gain = b; loss = half })
    bound_0 f = rw (e, f) (differ whole_is (omega arith) (omega arith))

    pub bound_1 : r ≡ 1 → Differ most_bound bound (record { gain = b; loss = half + 1 })
    bound_1 f = rw (e, f) (differ (is_pred (sub_ℕ b half) b half whole_is) (omega arith) (omega arith))

    pub bound_2 : r ≡ 2 → Differ most_bound bound (record { gain = half; loss = b })
    bound_2 f = rw (e, f) (differ (is_neg (sub_ℕ b half) b half whole_is) (omega arith) (omega arith))

    pub bound_3 : (r ≡ 0 → ⊥) → (r ≡ 1 → ⊥) → (r ≡ 2 → ⊥) → Differ most_bound bound (record { gain = half; loss = b + 1 })
    bound_3 f g h =
        rw (e, relation_last r f g h)
        (differ (is_also (pred_ℤ (neg_ℤ (sub_ℕ b half))) half (suc b) half (b + 1) (is_pred (neg_ℤ (sub_ℕ b half)) half b (is_neg (sub_ℕ b half) b half whole_is)) (omega arith))
        (omega arith) (omega arith))

-- ---- The value, or below 0

module _ (gain loss : ℕ) where
  pub bound_below : gain < loss → bound_of (sub_ℕ gain loss) ≡ Negative
  bound_below h = rw (lt-ltb gain loss h)

  pub bound_value : loss ≤ gain → bound_of (sub_ℕ gain loss) ≡ Natural (gain - loss)
  bound_value h = rw (le-ltb gain loss h)

-- ---- Whether the relation is turned round

turned_from_two : (n : ℕ) → turned_by (relation_of n) ≡ leb 2 n
turned_from_two zero = refl
turned_from_two (suc zero) = refl
turned_from_two (suc (suc zero)) = refl
turned_from_two (suc (suc (suc n))) = sym (le-leb 2 (suc (suc (suc n))) (omega arith))

pub turned_given : (ws : List ℕ) → has_relation ws ≡ true → turned_by (relation_in ws) ≡ leb 2 (payload (get_or ws 1 0))
turned_given ws e = rw e (turned_from_two (payload (get_or ws 1 0)))

pub turned_plain : (ws : List ℕ) → has_relation ws ≡ false → turned_by (relation_in ws) ≡ false
turned_plain ws e = rw e
