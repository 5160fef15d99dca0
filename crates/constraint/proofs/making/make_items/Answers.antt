-- `constraint::making::make_items` meets its contract: before each step the items from `at` on are in. Assumes nothing.
use mathlib.Core.Path.{◌≡◌, sym, ap, subst, ◌∙◌}
use Prim.Native.Nat.{ℕ, suc}
use native.Mathlib.Omega.{arith}
use lib.ListN.{length, drop, replicate}
use Rattle.diagram.specs.Constraint.{most_terms}
use Rattle.constraint_words.specs.Reading.{terms_in}
use Rattle.limits.specs.Limits.{main_limits}
use Rattle.constraint_words.proofs.Laws.{checked_all}
use Rattle.constraint_words.proofs.Items.{term_count, first_within}
use Rattle.constraint.proofs.Made.{Made, made_none, item_before_lem, more_fits, fits_as, bound_fits, places_known, shift_known, made_turn, making_none, making_next, put_fits, made_all}
use Rattle.constraint.proofs.making.make_items.Goals as goal

pub count_terms-terms-requires : goal.count_terms-terms-requires
count_terms-terms-requires c = omega (arith, c.first_item.ensures, first_within c.args.words.now (checked_all main_limits c.args.words.now c.requires).some)

pub bound_by-bound-requires : goal.bound_by-bound-requires
bound_by-bound-requires c = (checked_all main_limits c.args.words.now c.requires).some

pub levels-init : goal.levels-init
levels-init c =
    let ws = c.args.words.now in
    let terms : c.count_terms-terms.result ≡ length (terms_in ws) =
    c.count_terms-terms.ensures ∙ ap (λ (f : ℕ). term_count (drop f ws)) c.first_item.ensures in (
      c.is_turned-turned.ensures,
      making_none _ _ c.begin-made.ensures
          (subst (λ (n : ℕ). Made ws n (replicate most_terms 0) (replicate most_terms 0) (replicate (suc most_terms) 0) 0 0 c.bound_by-bound.result (length ws) n) (sym terms)
          (made_none ws c.requires c.bound_by-bound.result c.bound_by-bound.ensures)),
    )

pub overflow_sub-w : goal.overflow_sub-w
overflow_sub-w c = omega (arith, places_known _ c.requires c.levels.invariant.1 (omega arith))

pub offset_bounds-words-at : goal.offset_bounds-words-at
offset_bounds-words-at c = omega (arith, places_known _ c.requires c.levels.invariant.1 (omega arith))

pub bounds-words-at : goal.bounds-words-at
bounds-words-at c = omega (arith, places_known _ c.requires c.levels.invariant.1 (omega arith))

pub item_before-item-requires : goal.item_before-item-requires
item_before-item-requires c = let p = places_known _ c.requires c.levels.invariant.1 (omega arith) in (p.0, p.1)

pub shifted-bound-requires : goal.shifted-bound-requires
shifted-bound-requires c =
    let f = bound_fits _ c.requires c.levels.invariant.1 (omega arith) in
    (rw c.item_before-item.ensures (item_before_lem _ c.requires c.levels.invariant.1 (omega arith)).lower, f.0, f.1)

pub put-requires : goal.put-requires
put-requires c =
    let ws = c.args.words.now in
    let m = c.levels.invariant.1 in
    put_fits _ _ c.levels.made (omega arith) (places_known ws c.requires m (omega arith)).2
    (fits_as _ c.levels.made.orders c.coefficient_of.ensures c.end_of.ensures (more_fits ws c.requires m (omega arith)))

pub levels-preserved : goal.levels-preserved
levels-preserved c =
    let ws = c.args.words.now in
    let m = c.levels.invariant.1 in
    let moved = c.shifted-bound.ensures in
    let known = shift_known ws c.requires m (omega arith) _ _ _ moved.0 c.item_before-item.ensures c.is_negative.ensures c.levels.invariant.0 moved.1 in (
      c.levels.invariant.0,
      making_next _ _ c.levels.made _ (omega arith) c.put.ensures
          (made_turn ws c.requires m (omega arith) c.item_before-item.result moved.0 c.shifted-bound.result _ _ c.item_before-item.ensures known moved.2 c.coefficient_of.ensures c.end_of.ensures),
    )

pub returns : goal.returns
returns c = made_all _ c.requires _ c.levels.invariant.1 (omega arith) c.bound_of-made.ensures
