-- `dimacs_step::is_final` meets its contract: each phase is one state of the machine. Assumes nothing.
use Rattle.dimacs_text.specs.Machine.{final, Count}
use mathlib.Core.Path.{◌≡◌, refl, sym, ap, ◌∙◌}
use mathlib.Core.Bool.{Bool, false}
use mathlib.Core.Logic.{inl, inr}
use Prim.Native.Nat.{ℕ}
use Rattle.dimacs_step.specs.View.{counts, state, view}
use Rattle.dimacs_step.specs.declared.Phase.{Phase}
use Rattle.dimacs_step.specs.declared.State.{State}
use Rattle.dimacs_step.specs.declared.Phase.TheVariants.{Gap, Comment, Closed, Second, Before, CommentBefore, P, C, Cn, Cnf, AfterP, AfterCnf, First, AfterFirst, Minus, Literal}
use Rattle.dimacs_step.proofs.is_final.Goals as goal

final_in : (s : State) (p : Phase) → s.phase ≡ p → (b : Bool) → b ≡ final (state p s.flag (counts s) s.value) → b ≡ final (view s)
final_in s p e b h = h ∙ ap (λ (q : Phase). final (state q s.flag (counts s) s.value)) (sym e)

pub returns-in-Gap : goal.returns-in-Gap
unfolding final
returns-in-Gap c =
    elim c.in-Gap.is [
      | inl e ↦ final_in _ Gap e _ refl
      | inr (inl e) ↦ final_in _ Comment e _ refl
      | inr (inr e) ↦ final_in _ Closed e _ refl
    ]

pub returns-in-Second : goal.returns-in-Second
unfolding final
returns-in-Second c = final_in _ Second c.in-Second.is _ refl

-- where no clause may be open and no number be read, no text ends
unfinished : (p : Phase) (f : Bool) (w : Count) (v : ℕ) → ¬ (p ≡ Gap) → ¬ (p ≡ Comment) → ¬ (p ≡ Closed) → ¬ (p ≡ Second) → false ≡ final (state p f w v)
unfolding final
unfinished Gap f w v a b c d = absurd (a refl)
unfinished Comment f w v a b c d = absurd (b refl)
unfinished Closed f w v a b c d = absurd (c refl)
unfinished Second f w v a b c d = absurd (d refl)
unfinished Before f w v a b c d = refl
unfinished CommentBefore f w v a b c d = refl
unfinished P f w v a b c d = refl
unfinished C f w v a b c d = refl
unfinished Cn f w v a b c d = refl
unfinished Cnf f w v a b c d = refl
unfinished AfterP f w v a b c d = refl
unfinished AfterCnf f w v a b c d = refl
unfinished First f w v a b c d = refl
unfinished AfterFirst f w v a b c d = refl
unfinished Minus f w v a b c d = refl
unfinished Literal f w v a b c d = refl

pub returns-in_default : goal.returns-in_default
returns-in_default c =
    let no = c.in_default in
    unfinished c.args.s.phase _ _ _ no.not-Gap no.not-Comment no.not-Closed no.not-Second
