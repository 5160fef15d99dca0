-- PASSES END: each leaves all as it is, and then the bytes are stable, or closes at least one open byte; so one pass more than there are bytes comes to
-- stable bytes or a conflict. Assumes nothing.
use mathlib.Core.Path.{◌≡◌, refl, sym, ap, subst, ◌∙◌}
use mathlib.Core.Logic.{◌⊎◌, inl, inr, ⊎_elim}
use mathlib.Core.List.{List, [], ◌∷◌}
use Prim.Native.Nat.{ℕ, zero, suc, ◌<◌}
use native.Mathlib.Nat.{not-suc-le-zero}
use native.Mathlib.Omega.{arith}
use lib.ListN.{length}
use Rattle.clause.specs.Meaning.{Literal, Clause}
use Rattle.propagation.specs.Derived.{HasClause, Derived, Conflicting, Bytes, KnownIn}
use Rattle.propagation.specs.Propagated.{Status, neither, unit, falsified, status, put_literal, Outcome, conflict, reached, onward, settle_one, pass, passes, propagated}
use Rattle.propagation.specs.Extension.{open_count, SoundExtension, Stable}
use Rattle.propagation.proofs.Steps.{opens_le, extension_start, falsified_conflict, unit_extends}

module _ (cs : List Clause) (bs : List ℕ) (known : KnownIn (length bs) cs) where
  -- after some clauses ds of the list, from bytes b
  abbrev After : List Clause → List ℕ → Outcome → Type 0
  After ds b conflict = Conflicting cs (Derived cs bs)
  After ds b (reached d) = SoundExtension cs bs d × (((d ≡ b) × Stable b ds) ⊎ (open_count d < open_count b))

  pass_after : (ds : List Clause) → ((c : Clause) → HasClause ds c → HasClause cs c) → (b : List ℕ) → SoundExtension cs bs b → After ds b (pass ds b)
  unfolding pass
  pass_after [] sub b w = (w, inl (refl, λ c m. absurd m))
  pass_after (c ∷ ds) sub b w = go (status b c) refl (λ d. pass_after ds (λ x m. sub x (inr m)) d)
    where
      still : status b c ≡ neither → (r : Outcome) → After ds b r → After (c ∷ ds) b r
      still e conflict x = x
      still e (reached d) x =
          (x.0, ⊎_elim (λ p. inl (p.0, λ k m. ⊎_elim (λ q. ap (status b) q ∙ e) (p.1 k) m)) inr x.1)

      fewer : (l : Literal) → open_count (put_literal b l) < open_count b → (r : Outcome) → After ds (put_literal b l) r → After (c ∷ ds) b r
      fewer l f conflict x = x
      fewer l f (reached d) x = (x.0, inr (⊎_elim (λ p. omega (arith, ap open_count p.0)) (λ p. omega arith) x.1))

      go : (s : Status) → status b c ≡ s → ((d : List ℕ) → SoundExtension cs bs d → After ds d (pass ds d)) → After (c ∷ ds) b (onward (settle_one s b) (pass ds))
      go neither e ih = still e (pass ds b) (ih b w)
      go (unit l) e ih =
          let t = unit_extends cs bs b known w c (sub c (inl refl)) l e in
          fewer l t.1 (pass ds (put_literal b l)) (ih (put_literal b l) t.0)
      go falsified e ih = falsified_conflict cs bs b known w c (sub c (inl refl)) e

  -- where a pass leaves all as it is, further ones do
  still_passes : (n : ℕ) (b : List ℕ) → pass cs b ≡ reached b → passes n cs b ≡ reached b
  unfolding passes
  still_passes zero b e = refl
  still_passes (suc n) b e = ap (λ (r : Outcome). onward r (passes n cs)) e ∙ still_passes n b e

  -- THE END: a conflict in what is settled, or stable bytes
  abbrev pub PassesEnd : Outcome → Type 0
  PassesEnd conflict = Conflicting cs (Derived cs bs)
  PassesEnd (reached d) = SoundExtension cs bs d × Stable d cs

  passes_end : (n : ℕ) (b : List ℕ) → SoundExtension cs bs b → open_count b < n → PassesEnd (passes n cs b)
  unfolding passes
  passes_end zero b w h = absurd (not-suc-le-zero h)
  passes_end (suc n) b w h = go (pass cs b) refl (pass_after cs (λ c m. m) b w) (λ d. passes_end n d)
    where
      go : (r : Outcome) → pass cs b ≡ r → After cs b r → ((d : List ℕ) → SoundExtension cs bs d → open_count d < n → PassesEnd (passes n cs d)) → PassesEnd (onward r (passes n cs))
      go conflict e x ih = x
      go (reached d) e x ih = ⊎_elim same (λ p. ih d x.0 (omega arith)) x.1
        where
          same : (d ≡ b) × Stable b cs → PassesEnd (passes n cs d)
          same p = subst (λ (r : Outcome). PassesEnd r) (sym (ap (passes n cs) p.0 ∙ still_passes n b (e ∙ ap reached p.0))) (w, p.1)

  pub propagated_ends : Bytes bs → PassesEnd (propagated cs bs)
  unfolding propagated
  propagated_ends h = passes_end (suc (length bs)) bs (extension_start cs bs h) (omega (arith, opens_le bs))
