-- THE TURNS OF A PASS FORWARD: the clauses before the place are passed, the one behind it is attended to, and the place moves past its end word. Assumes nothing.
use mathlib.Core.Path.{◌≡◌, sym, subst}
use mathlib.Core.List.{List, [], ◌∷◌, ◌++◌}
use Prim.Native.Nat.{ℕ, ◌≤◌, ◌<◌}
use native.Mathlib.Omega.{arith}
use lib.ListN.{length, drop}
use Rattle.std.specs.Prelude.{Ok}
use Rattle.clause.specs.Meaning.{Clause, literal_of, clauses_of}
use Rattle.tester.specs.Past.{past_end}
use Rattle.propagation.specs.Derived.{HasClause, Derived, Conflicting}
use Rattle.propagation.specs.Propagated.{put_literal}
use Rattle.propagator.specs.Pass.{Asks, Split, Between, Propagable, StableBefore, StableBehind, changed_at, AfterPass}
use Rattle.propagator.proofs.Places.{either_side, one_behind, at_end, in_list, status_here, split_next, past_end_within}
use Rattle.propagator.proofs.PassSoFar.{PassSoFar, PassTurn, pass_start, pass_falsified, pass_neither, pass_unit, pass_done}

abbrev pub Forwards : (ws before b : List ℕ) (began last at : ℕ) → Type 0
Forwards ws before b began last at = PassSoFar (Split ws) (clauses_of ws) before b began last at

module _ (ws before : List ℕ) (ready : Propagable ws before) (began : ℕ) where
  pub forwards_start : StableBefore ws before began → Forwards ws before before began began began
  forwards_start s = pass_start (Split ws) ws before ready began s.pre s.post s.split s.stable

  module _ (last at : ℕ) (b : List ℕ) (g : Forwards ws before b began last at) where
    pub forwards_between : Between ws at
    forwards_between = (g.passed, g.ahead, g.here)

    pub forwards_done : length ws ≤ at → AfterPass (StableBehind ws b) (clauses_of ws) before b (Ok (changed_at began last))
    forwards_done h =
        pass_done (Split ws) ws before ready began last at b g (at_end ws (length before) ready.0 at g.passed g.ahead g.here h)
        (StableBehind ws b) (λ pre post s q. record { pre = pre; post = post; split = s; stable = q })
        (either_side ws (length before) ready.0 last g.passed_then g.ahead_then g.there)

    -- the clause behind the place
    module _ (i : began ≤ at) (h : at < length ws) (next : ℕ) (e : next ≡ past_end at (drop at ws)) where
      record Found : Type 0 where
        clause : Clause
        more : List Clause
        is : g.ahead ≡ clause ∷ more
        here : Split ws at g.passed (clause ∷ more)

      found : Found
      found =
          let t = one_behind ws (length before) ready.0 at g.passed g.ahead g.here h in
          record { clause = t.0; more = t.1; is = t.2; here = subst (Split ws at g.passed) t.2 g.here }

      pub forwards_less : (at < next) × (next ≤ length ws)
      forwards_less =
          let p = past_end_within ws (length before) ready.0 at g.passed found.clause found.more found.here in
          (omega (arith, e, p.0), omega (arith, e, p.1))

      forwards_turn : PassTurn (Split ws) ws g.ahead at next
      forwards_turn =
          record {
            clause = found.clause;
            in_list = in_list ws (length before) ready.0 at g.passed found.clause found.more found.here;
            reads = status_here ws (length before) ready.0 at g.passed found.clause found.more found.here;
            passed = g.passed ++ (found.clause ∷ []);
            more = found.more;
            here =
                subst (λ (x : ℕ). Split ws x (g.passed ++ (found.clause ∷ [])) found.more) (sym e)
                (split_next ws (length before) ready.0 at g.passed found.clause found.more found.here);
            one_fewer = λ x m. subst (λ (l : List Clause). HasClause l x) found.is m;
          }

      -- by what it asks for
      module _ (found : ℕ) (asks : Asks b ws at found) where
        pub forwards_falsified : found ≡ 0 → Conflicting (clauses_of ws) (Derived (clauses_of ws) before)
        forwards_falsified e = pass_falsified (Split ws) ws before ready began last at b g at next forwards_turn found asks e

        pub forwards_neither : found ≡ 0xC0000000 → (began ≤ next) × Forwards ws before b began last next
        forwards_neither q = (omega (arith, i, forwards_less.0), pass_neither (Split ws) ws before ready began last at b g at next forwards_turn found asks q)

        pub forwards_unit : ¬ (found ≡ 0) → ¬ (found ≡ 0xC0000000) → (a : List ℕ) → a ≡ put_literal b (literal_of found) → (began ≤ next) × Forwards ws before a began next next
        forwards_unit d q a p = (
          omega (arith, i, forwards_less.0),
          pass_unit (Split ws) ws before ready began last at b g at next forwards_turn found asks a d q (λ z. omega (arith, z, i, forwards_less.0)) p,
        )
