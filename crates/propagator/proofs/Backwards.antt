-- THE TURNS OF A PASS BACKWARD: the clauses behind the place are passed, the one before it is attended to, and the place moves to where that begins.
-- Assumes nothing.
use mathlib.Core.Path.{◌≡◌, sym, subst}
use mathlib.Core.Logic.{⊎_elim, inl, inr}
use mathlib.Core.List.{List, ◌∷◌}
use Prim.Native.Nat.{ℕ, suc, ◌-◌, ◌≤◌, ◌<◌}
use native.Mathlib.Omega.{arith}
use lib.ListN.{length, get_or}
use Rattle.std.specs.Prelude.{Ok}
use Rattle.word.specs.Word.{payload}
use Rattle.clause.specs.Meaning.{Clause, literal_of, clauses_of}
use Rattle.propagation.specs.Derived.{HasClause, Derived, Conflicting}
use Rattle.propagation.specs.Propagated.{put_literal}
use Rattle.propagator.specs.Pass.{ListPasses, Asks, Split, Between, Propagable, StableBefore, StableBehind, changed_at, AfterPass}
use Rattle.propagator.proofs.Places.{within, either_side, at_start, in_list, status_here, ClauseBefore, one_before, has_last}
use Rattle.propagator.proofs.PassSoFar.{Direction, PassSoFar, PassTurn, pass_start, pass_falsified, pass_neither, pass_unit, pass_done}

abbrev pub Back : List ℕ → Direction
Back ws at passed ahead = Split ws at ahead passed

abbrev pub Backwards : (ws before b : List ℕ) (began last at : ℕ) → Type 0
Backwards ws before b began last at = PassSoFar (Back ws) (clauses_of ws) before b began last at

module _ (ws before : List ℕ) (ready : Propagable ws before) (began : ℕ) where
  pub backwards_start : StableBehind ws before began → Backwards ws before before began began began
  backwards_start s = pass_start (Back ws) ws before ready began s.post s.pre s.split s.stable

  module _ (last at : ℕ) (b : List ℕ) (g : Backwards ws before b began last at) where
    pub backwards_within : at ≤ length ws
    backwards_within = within ws (length before) ready.0 at g.ahead g.passed g.here

    pub backwards_done : at ≡ 0 → AfterPass (StableBefore ws b) (clauses_of ws) before b (Ok (changed_at began last))
    backwards_done h =
        pass_done (Back ws) ws before ready began last at b g (at_start ws (length before) ready.0 at g.ahead g.passed g.here h)
        (StableBefore ws b) (λ post pre s q. record { pre = pre; post = post; split = s; stable = q })
        (λ c m. ⊎_elim inr inl (either_side ws (length before) ready.0 last g.ahead_then g.passed_then g.there c m))

    -- the clause before the place
    module _ (i : at ≤ began) (h : 0 < at) where
      found : ClauseBefore ws (length before) ready.0 at g.ahead g.passed
      found = one_before ws (length before) ready.0 at g.ahead g.passed g.here h

      pub backwards_less : suc (payload (get_or ws (at - 1) 0)) ≤ at
      backwards_less = found.fits_in

      -- where it begins
      module _ (next : ℕ) (e : next ≡ at - 1 - payload (get_or ws (at - 1) 0)) where
        here : Split ws next found.more (found.clause ∷ g.passed)
        here = subst (λ (x : ℕ). Split ws x found.more (found.clause ∷ g.passed)) (sym e) found.begins

        -- what a look there asks for
        pub backwards_look : ListPasses (length b) ws × Between ws next × (next < length ws)
        backwards_look = (
          subst (λ (n : ℕ). ListPasses n ws) (sym g.extension.long) ready.0,
          (found.more, found.clause ∷ g.passed, here),
          omega (arith, e, h, backwards_within),
        )

        backwards_turn : PassTurn (Back ws) ws g.ahead next next
        backwards_turn =
            record {
              clause = found.clause;
              in_list = in_list ws (length before) ready.0 next found.more found.clause g.passed here;
              reads = status_here ws (length before) ready.0 next found.more found.clause g.passed here;
              passed = found.clause ∷ g.passed;
              more = found.more;
              here = here;
              one_fewer = λ x m. has_last found.more found.clause x (subst (λ (l : List Clause). HasClause l x) found.last m);
            }

        -- by what it asks for
        module _ (asked : ℕ) (asks : Asks b ws next asked) where
          pub backwards_falsified : asked ≡ 0 → Conflicting (clauses_of ws) (Derived (clauses_of ws) before)
          backwards_falsified q = pass_falsified (Back ws) ws before ready began last at b g next next backwards_turn asked asks q

          pub backwards_neither : asked ≡ 0xC0000000 → (next ≤ began) × Backwards ws before b began last next
          backwards_neither q = (omega (arith, e, h, i), pass_neither (Back ws) ws before ready began last at b g next next backwards_turn asked asks q)

          pub backwards_unit : ¬ (asked ≡ 0) → ¬ (asked ≡ 0xC0000000) → (a : List ℕ) → a ≡ put_literal b (literal_of asked) → (next ≤ began) × Backwards ws before a began next next
          backwards_unit d q a p = (
            omega (arith, e, h, i),
            pass_unit (Back ws) ws before ready began last at b g next next backwards_turn asked asks a d q (λ z. omega (arith, z, e, h, i)) p,
          )
