-- PASS AFTER PASS: one that changes nothing ends in what unit propagation reaches, one that comes upon a conflict ends in its conflict, and any other closes an
-- open byte. Assumes nothing.
use mathlib.Core.Path.{◌≡◌, sym, ap, subst, ◌∙◌}
use mathlib.Core.List.{List, []}
use Prim.Native.Nat.{ℕ}
use lib.ListN.{length}
use Rattle.std.specs.Prelude.{None, Some, Ok, Err}
use Rattle.clause.specs.Meaning.{clauses_of}
use Rattle.propagation.specs.Derived.{opposite, KnownIn}
use Rattle.propagation.specs.Propagated.{conflict, reached, propagated}
use Rattle.propagation.specs.Extension.{SoundExtension}
use Rattle.propagation.proofs.Steps.{extension_start, settled_from, extension_on}
use Rattle.propagation.proofs.Laws.{reached_is, conflict_is}
use Rattle.propagator.specs.Pass.{ListPasses, Propagable, StableBefore, AfterPass}
use Rattle.propagator.specs.declared.Conflict.{Conflict}
use Rattle.propagator.proofs.Places.{split_start, listed_known}

module _ (ws before : List ℕ) (ready : Propagable ws before) where
  known : KnownIn (length before) (clauses_of ws)
  known = listed_known (length before) ws ready.0

  pub round_start : SoundExtension (clauses_of ws) before before × StableBefore ws before 0
  round_start = (
    extension_start (clauses_of ws) before ready.1,
    record { pre = []; post = clauses_of ws; split = split_start ws (length before) ready.0; stable = λ c m. absurd m },
  )

  module _ (b : List ℕ) (extension : SoundExtension (clauses_of ws) before b) where
    pub round_ready : Propagable ws b
    round_ready = (subst (λ (n : ℕ). ListPasses n ws) (sym extension.long) ready.0, extension.legal)

    module _ (Rest : ℕ → Type 0) (a : List ℕ) where
      pub round_still : AfterPass Rest (clauses_of ws) b a (Ok None) → reached a ≡ propagated (clauses_of ws) before
      round_still m = ap reached m.0 ∙ sym (reached_is (clauses_of ws) before known ready.1 b extension m.1)

      pub round_conflict : (x : Conflict) → AfterPass Rest (clauses_of ws) b a (Err x) → conflict ≡ propagated (clauses_of ws) before
      round_conflict x m =
          sym ((conflict_is (clauses_of ws) before known ready.1).1
          (m.0, m.1, λ k i. settled_from (clauses_of ws) before b extension.sound (opposite k) (m.2 k i)))

      pub round_on : (p : ℕ) → AfterPass Rest (clauses_of ws) b a (Ok (Some p)) → SoundExtension (clauses_of ws) before a
      round_on p m = extension_on (clauses_of ws) before b a extension m.0
