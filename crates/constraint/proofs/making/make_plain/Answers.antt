-- `constraint::making::make_plain` meets its contract: every item is one word, and nothing is added to the bound. Assumes nothing.
use mathlib.Core.Path.{◌≡◌, refl, ap, ◌∙◌}
use Prim.Native.Nat.{ℕ, ◌+◌, ◌-◌}
use native.Mathlib.Omega.{arith}
use lib.ListN.{length, get_or}
use Rattle.word.specs.Word.{coefficient, domain_end}
use Rattle.constraint_bound.specs.declared.Bound.TheVariants.{Natural}
use Rattle.constraint.specs.declared.Constraint.{Constraint as Held}
use Rattle.constraint.proofs.Made.{places_known, fits_as, making_none, making_next, put_fits, made_all}
use Rattle.constraint.proofs.Plain.{bound_own, plain_none, plain_fits, plain_turn}
use Rattle.constraint.proofs.making.make_plain.Goals as goal

pub levels-init : goal.levels-init
levels-init c =
    let ws = c.args.words.now in (
      ap (λ (r : Held). r.bound) c.begin-made.ensures ∙ ap (λ (n : ℕ). Natural n) c.payload_of.ensures,
      making_none _ _ c.begin-made.ensures (plain_none ws c.requires.1 c.requires.0 (length ws - 1) refl),
    )

pub put-requires : goal.put-requires
put-requires c =
    let ws = c.args.words.now in
    let m = c.levels.invariant.1 in
    let e : c.levels.level - 1 + 1 ≡ c.levels.level = omega arith in
    let a = c.coefficient_of.ensures ∙ ap (λ (i : ℕ). coefficient (get_or ws i 0)) e in
    let d = c.end_of.ensures ∙ ap (λ (i : ℕ). domain_end (get_or ws i 0)) e in
    put_fits _ _ c.levels.made (omega arith) (places_known ws c.requires.0 m (omega arith)).2 (fits_as _ c.levels.made.orders a d (plain_fits ws c.requires.1 c.requires.0 m (omega arith)))

pub levels-preserved : goal.levels-preserved
levels-preserved c =
    let ws = c.args.words.now in
    let e : c.levels.level - 1 + 1 ≡ c.levels.level = omega arith in
    let a = c.coefficient_of.ensures ∙ ap (λ (i : ℕ). coefficient (get_or ws i 0)) e in
    let d = c.end_of.ensures ∙ ap (λ (i : ℕ). domain_end (get_or ws i 0)) e in (
      ap (λ (r : Held). r.bound) c.put.ensures ∙ c.levels.invariant.0,
      making_next _ _ c.levels.made _ (omega arith) c.put.ensures (plain_turn ws c.requires.1 c.requires.0 c.levels.invariant.1 (omega arith) _ _ a d),
    )

pub returns : goal.returns
returns c = made_all _ c.requires.0 _ c.levels.invariant.1 (omega arith) (c.levels.invariant.0 ∙ bound_own _)
