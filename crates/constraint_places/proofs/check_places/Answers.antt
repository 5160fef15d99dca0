-- `constraint_places::check_places` meets its contract. The loop's invariant: the check of the words from `at` on, with what is due, is that of all items.
-- Assumes nothing.
use mathlib.Core.Path.{◌≡◌, sym, ◌∙◌, ap}
use mathlib.Core.Bool.{false, true}
use Prim.Native.Nat.{ℕ, ◌+◌}
use native.Mathlib.Omega.{arith}
use lib.Dec.{eqb}
use lib.ListN.{get_or, drop}
use Rattle.word.specs.Word.{kind}
use Rattle.std.specs.Prelude.{Err}
use Rattle.refusal.specs.declared.Refusal.TheVariants.{WrongKind}
use Rattle.constraint_words.specs.Reading.{can_stand, placed_from}
use Rattle.constraint_words.proofs.Checking.{placed_on, placed_refused, placed_end}
use Rattle.constraint_places.proofs.check_places.Goals as goal

pub returns-then-not-can_stand : goal.returns-then-not-can_stand
returns-then-not-can_stand c =
    let ws = c.args.words.now in
    let stands : can_stand c.places.due (kind (get_or ws c.places.at 0)) ≡ false =
    ap (can_stand c.places.due) (sym c.kind_of-kind.ensures) ∙ sym c.can_stand.ensures ∙ c.if-not-can_stand.true in
    sym (c.places.invariant ∙ placed_refused ws c.places.due c.places.at (omega arith) stands)

pub places-preserved : goal.places-preserved
places-preserved c =
    let ws = c.args.words.now in
    let is = c.kind_of-kind.ensures in
    let stands : can_stand c.places.due (kind (get_or ws c.places.at 0)) ≡ true =
    ap (can_stand c.places.due) (sym is) ∙ sym c.can_stand.ensures ∙ c.if-not-can_stand.false in
    c.places.invariant ∙ placed_on ws c.places.due c.places.at (omega arith) stands
    ∙ ap (λ (n : ℕ). placed_from (eqb n 2) (c.places.at + 1) (drop (c.places.at + 1) ws)) (sym is)

pub returns-then-due : goal.returns-then-due
returns-then-due c =
    let ws = c.args.words.now in
    sym (c.places.invariant ∙ placed_end ws c.places.due c.places.at (omega arith) ∙ rw c.if-due.true (ap (λ (n : ℕ). Err (WrongKind n)) (omega arith)))

pub returns : goal.returns
returns c =
    let ws = c.args.words.now in
    sym (c.places.invariant ∙ placed_end ws c.places.due c.places.at (omega arith) ∙ rw c.if-due.false)
