-- THE RANGE OF THE BASE BOUND that words state, where they pass the check. Assumes nothing.
use mathlib.Core.Path.{◌≡◌, refl}
use mathlib.Core.Bool.{Bool, true, false, not, cond, ◌||◌}
use mathlib.Core.List.{List, [], ◌∷◌}
use Prim.Native.Nat.{ℕ, suc, ◌≤◌, ◌<◌}
use native.Mathlib.Omega.{arith}
use borrow.Author.Tests.{leb-true, ltb-true, ltb-false}
use lib.Dec.{leb, ltb}
use lib.IntN.{ℤ, pos, nat_abs, sub_ℕ}
use lib.ListN.{get_or, length-map}
use Rattle.word.specs.Word.{payload, payloads, half, less_half}
use Rattle.refusal.specs.Table.{passed}
use Rattle.refusal.specs.declared.Refusal.TheVariants.{LowerEnd}
use Rattle.refusal.proofs.Passes.{both_passed, unless_passed}
use Rattle.limits.specs.declared.Limits.{Limits}
use Rattle.inequality.specs.Written.{farthest_lower}
use Rattle.inequality.specs.Base.{base_term}
use Rattle.inequality.proofs.Range.{AllNear, farthest_bound, base_range}
use Rattle.constraint_words.specs.Reading.{is_lower, has_relation, first_item, items, each_from, lower_checked, term_of, terms_from, terms_in, bound_in, checked, as_written, stated}
use Rattle.constraint_words.proofs.Checking.{below_is, above_is}
use Rattle.constraint_words.proofs.Laws.{checked_all, checked_within}

-- lower ends that pass are near 0
each_near : (l : ℤ) (at : ℕ) (ws : List ℕ) → nat_abs l ≤ farthest_lower → each_from lower_checked at ws ≡ passed → AllNear (terms_from l ws)
unfolding each_from terms_from
each_near l at [] h e = tt
each_near l at (w ∷ ws) h e =
    let parts = both_passed (lower_checked at w) (each_from lower_checked (suc at) ws) e in
    let far = leb (nat_abs (less_half w)) farthest_lower in
    go (is_lower w) (unless_passed (not (is_lower w) || far) (LowerEnd at) parts.0) (λ k. each_near (less_half w) (suc at) ws (leb-true (nat_abs (less_half w)) farthest_lower k) parts.1)
    (each_near (pos 0) (suc at) ws (omega arith) parts.1)
  where
    go : (b : Bool) → (not b || leb (nat_abs (less_half w)) farthest_lower) ≡ true → (leb (nat_abs (less_half w)) farthest_lower ≡ true → AllNear (terms_from (less_half w) ws))
        → AllNear (terms_from (pos 0) ws) → AllNear (cond b (terms_from (less_half w) ws) (term_of l w ∷ terms_from (pos 0) ws))
    go true c p q = p c
    go false c p q = (h, q)

-- a payload less half of them
half_near : (p : ℕ) → p < payloads → nat_abs (sub_ℕ p half) < payloads
half_near p h = go (ltb p half) refl
  where
    go : (b : Bool) → ltb p half ≡ b → nat_abs (sub_ℕ p half) < payloads
    go true e = let k = ltb-true p half e in omega (arith, below_is p k)
    go false e = let k = ltb-false p half e in omega (arith, above_is p k)

bound_near : (ws : List ℕ) → nat_abs (bound_in ws) < payloads
bound_near ws = go (has_relation ws)
  where
    go : (b : Bool) → nat_abs (cond b (less_half (get_or ws 0 0)) (pos (payload (get_or ws 0 0)))) < payloads
    go true = half_near (payload (get_or ws 0 0)) (omega arith)
    go false = omega arith

-- THE RANGE
pub stated_range : (l : Limits) (ws : List ℕ) → checked l ws ≡ passed → nat_abs (stated ws).bound ≤ farthest_bound
unfolding stated as_written
stated_range l ws e =
    let w = checked_within l ws e in
    base_range (as_written ws) w.each (each_near (pos 0) (first_item ws) (items ws) (omega arith) (checked_all l ws e).lowers) (omega (arith, w.few, length-map (terms_in ws) base_term)) (bound_near ws)
