-- FROM THE WORDS to the judgement: the levels of a record are those of the constraint that the words state. Assumes nothing.
use mathlib.Core.Path.{◌≡◌, refl, sym, ap, subst, ◌∙◌}
use mathlib.Core.List.{List}
use Prim.Native.Nat.{ℕ}
use lib.IntN.{ℤ, pos, negsuc}
use Rattle.word.specs.Gives.{Gives}
use Rattle.word.specs.Record.{Record, records}
use Rattle.word.proofs.Giving.{gives}
use Rattle.refusal.specs.declared.Refusal.{Refusal}
use Rattle.refusal.specs.Table.{Checked, passed}
use Rattle.std.specs.Prelude.{Err}
use Rattle.diagram.specs.Level.{Level}
use Rattle.diagram.specs.Constraint.{Term, levels}
use Rattle.limits.specs.Limits.{main_limits}
use Rattle.constraint_words.specs.Reading.{checked, stated}
use Rattle.constraint_words.proofs.Laws.{checked_within}
use Rattle.constraint_bound.specs.declared.Bound.{Bound}
use Rattle.constraint_bound.specs.declared.Bound.TheVariants.{Negative, Natural}
use Rattle.constraint_bound.specs.Bound.{bound_of}
use Rattle.constraint.specs.Held.{held_of}
use Rattle.constraint.specs.Lent.{terms_of, levels_of}
use Rattle.constraint.specs.declared.Constraint.{Constraint as Held}
use Rattle.constraint.proofs.Arrays.{bound_held}
use Rattle.marking.specs.Judged.{judged}
use Rattle.marker.specs.Reply.{marked_reply, marked_values}

-- what a record's bound says of the stated one
abbrev BoundSays : Bound → ℤ → Type 0
BoundSays Negative a = (z : ℕ) × (a ≡ negsuc z)
BoundSays (Natural z) a = a ≡ pos z

bound_says : (a : ℤ) → BoundSays (bound_of a) a
bound_says (pos z) = refl
bound_says (negsuc z) = (z, refl)

module _ (ws : List ℕ) (ok : checked main_limits ws ≡ passed) (c : Held) (is : c ≡ held_of (stated ws)) where
  says : (b : Bound) → c.bound ≡ b → BoundSays b (stated ws).bound
  says b e = subst (λ (x : Bound). BoundSays x (stated ws).bound) (sym (bound_held (stated ws) (checked_within main_limits ws ok) c is) ∙ e) (bound_says (stated ws).bound)

  -- the judgement for the record's levels is the one for the constraint that is stated
  pub judged_stated : (cs ds : List ℕ) → terms_of cs ds ≡ (stated ws).terms → (z : ℕ) → c.bound ≡ Natural z → (r : Checked) (xs : List Record) (es : List ℕ)
      → r ≡ judged (levels_of cs ds) (pos z) xs es → r ≡ judged (levels (stated ws).terms) (stated ws).bound xs es
  judged_stated cs ds t z e r xs es f =
      f
      ∙ ap (λ (ts : List Term). judged (levels ts) (pos z) xs es) t
      ∙ ap (λ (a : ℤ). judged (levels (stated ws).terms) a xs es) (sym (says (Natural z) e))

  -- the same for a bound below 0
  pub judged_below : c.bound ≡ Negative → (r : Checked) (xs : List Record) (es : List ℕ)
      → ((ls : List Level) (z : ℕ) (fs : List ℕ) → r ≡ judged ls (negsuc z) xs fs) → r ≡ judged (levels (stated ws).terms) (stated ws).bound xs es
  judged_below e r xs es f =
      let h = says Negative e in
      f (levels (stated ws).terms) h.0 es ∙ ap (λ (a : ℤ). judged (levels (stated ws).terms) a xs es) (sym h.1)

-- the reply to words that are refused, and to words that pass
pub mark_refused : (ws t es : List ℕ) (x : Refusal) → Err x ≡ checked main_limits ws → Gives marked_values (marked_reply ws t es) (Err x)
unfolding marked_reply
mark_refused ws t es x e = gives marked_values (rw (sym e) refl)

pub mark_passed : (ws t es : List ℕ) → checked main_limits ws ≡ passed → (r : Checked) → r ≡ judged (levels (stated ws).terms) (stated ws).bound (records t) es → Gives marked_values (marked_reply ws t es) r
unfolding marked_reply
mark_passed ws t es e r f = gives marked_values (rw e f)
