-- A PASS UNDER WAY, said once for both directions: a place has the clauses that the pass has passed there and those that are ahead of it. The bytes hold nothing but
-- what is settled from where the pass began, and each clause that was ahead at the last change is still ahead or asks for nothing. Assumes nothing.
use mathlib.Core.Path.{◌≡◌, refl, sym, ap, subst, ◌∙◌}
use mathlib.Core.Logic.{◌⊎◌, inl, inr, ⊎_elim}
use mathlib.Core.List.{List}
use mathlib.Core.Bool.{Bool, true, false}
use Prim.Native.Nat.{ℕ, ◌<◌}
use native.Mathlib.Omega.{arith}
use lib.Dec.{eqb}
use lib.ListN.{length, drop}
use borrow.Author.Tests.{eqb-true, eqb-false, eq-eqb, ne_eqb}
use Rattle.clause.specs.Meaning.{Clause, literal_of, clauses_of}
use Rattle.propagation.specs.Derived.{HasClause, Derived, Conflicting, KnownIn}
use Rattle.propagation.specs.Propagated.{neither, falsified, status, put_literal}
use Rattle.propagation.specs.Extension.{SoundExtension, Stable, open_count}
use Rattle.propagation.proofs.Steps.{extension_start, falsified_conflict, unit_extends}
use Rattle.propagator.specs.Pass.{looked, Asks, Propagable, changed_at, AfterPass}
use Rattle.std.specs.Prelude.{None, Some, Ok}
use Rattle.propagator.proofs.Looks.{asks_neither, asks_falsified, asks_unit}
use Rattle.propagator.proofs.Places.{listed_known}

-- a place, with the clauses that are passed there and those ahead
abbrev pub Direction : Type 1
Direction = ℕ → List Clause → List Clause → Type 0

-- `last` is the place that the pass had come to with its last change, or where it began
pub record PassSoFar (Place : Direction) (cs : List Clause) (before b : List ℕ) (began last at : ℕ) : Type 0 where
  pub extension : SoundExtension cs before b
  pub passed : List Clause
  pub ahead : List Clause
  pub here : Place at passed ahead
  pub passed_then : List Clause
  pub ahead_then : List Clause
  pub there : Place last passed_then ahead_then
  pub seen : (c : Clause) → HasClause ahead_then c → HasClause ahead c ⊎ (status b c ≡ neither)
  pub same : last ≡ began → (b ≡ before) × Stable b passed_then
  pub fewer : ¬ (last ≡ began) → open_count b < open_count before

-- A TURN: the clause that begins at a place is attended to, and the pass moves on to the next place
pub record PassTurn (Place : Direction) (ws : List ℕ) (ahead : List Clause) (begins next : ℕ) : Type 0 where
  pub clause : Clause
  pub in_list : HasClause (clauses_of ws) clause
  pub reads : (bs : List ℕ) → looked bs falsified (drop begins ws) ≡ status bs clause
  pub passed : List Clause
  pub more : List Clause
  pub here : Place next passed more
  pub one_fewer : (x : Clause) → HasClause ahead x → (x ≡ clause) ⊎ HasClause more x

module _ (Place : Direction) (ws before : List ℕ) (ready : Propagable ws before) (began : ℕ) where
  known : KnownIn (length before) (clauses_of ws)
  known = listed_known (length before) ws ready.0

  pub pass_start : (passed ahead : List Clause) → Place began passed ahead → Stable before passed → PassSoFar Place (clauses_of ws) before before began began began
  pass_start passed ahead p s =
      record {
        extension = extension_start (clauses_of ws) before ready.1;
        passed = passed;
        ahead = ahead;
        here = p;
        passed_then = passed;
        ahead_then = ahead;
        there = p;
        seen = λ c m. inl m;
        same = λ e. (refl, s);
        fewer = λ d. absurd (d refl);
      }

  module _ (last at : ℕ) (b : List ℕ) (g : PassSoFar Place (clauses_of ws) before b began last at) where
    -- the clause asks for `found`
    module _ (begins next : ℕ) (t : PassTurn Place ws g.ahead begins next) (found : ℕ) (asks : Asks b ws begins found) where
      pub pass_falsified : found ≡ 0 → Conflicting (clauses_of ws) (Derived (clauses_of ws) before)
      pass_falsified e =
          falsified_conflict (clauses_of ws) before b known g.extension t.clause t.in_list (sym (t.reads b) ∙ asks_falsified b ws begins found asks e)

      pub pass_neither : found ≡ 0xC0000000 → PassSoFar Place (clauses_of ws) before b began last next
      pass_neither e =
          record {
            extension = g.extension;
            passed = t.passed;
            ahead = t.more;
            here = t.here;
            passed_then = g.passed_then;
            ahead_then = g.ahead_then;
            there = g.there;
            seen = λ c m. ⊎_elim (λ n. ⊎_elim (λ q. inr (ap (status b) q ∙ none)) inl (t.one_fewer c n)) inr (g.seen c m);
            same = g.same;
            fewer = g.fewer;
          }
        where
          none : status b t.clause ≡ neither
          none = sym (t.reads b) ∙ asks_neither b ws begins found asks e

      pub pass_unit : (a : List ℕ) → ¬ (found ≡ 0) → ¬ (found ≡ 0xC0000000) → ¬ (next ≡ began) → a ≡ put_literal b (literal_of found)
          → PassSoFar Place (clauses_of ws) before a began next next
      pass_unit a d e n put =
          subst (λ (x : List ℕ). PassSoFar Place (clauses_of ws) before x began next next) (sym put)
          (record {
            extension = extends.0;
            passed = t.passed;
            ahead = t.more;
            here = t.here;
            passed_then = t.passed;
            ahead_then = t.more;
            there = t.here;
            seen = λ c m. inl m;
            same = λ q. absurd (n q);
            fewer = λ q. down (eqb last began) refl extends.1;
          })
        where
          extends : SoundExtension (clauses_of ws) before (put_literal b (literal_of found)) × (open_count (put_literal b (literal_of found)) < open_count b)
          extends =
              unit_extends (clauses_of ws) before b known g.extension t.clause t.in_list (literal_of found)
              (sym (t.reads b) ∙ asks_unit b ws begins found asks d e)

          down : (x : Bool) → eqb last began ≡ x → open_count (put_literal b (literal_of found)) < open_count b → open_count (put_literal b (literal_of found)) < open_count before
          down true u h = omega (arith, ap open_count (g.same (eqb-true last began u)).0)
          down false u h = omega (arith, g.fewer (eqb-false last began u))

    -- THE END OF A PASS, where no clause is ahead
    module _ (none : (c : Clause) → HasClause g.ahead c → ⊥) where
      still : Stable b g.ahead_then
      still c m = ⊎_elim (λ n. absurd (none c n)) (λ e. e) (g.seen c m)

      pub pass_done : (Rest : ℕ → Type 0) → ((passed ahead : List Clause) → Place last passed ahead → Stable b ahead → Rest last)
          → ((c : Clause) → HasClause (clauses_of ws) c → HasClause g.passed_then c ⊎ HasClause g.ahead_then c)
          → AfterPass Rest (clauses_of ws) before b (Ok (changed_at began last))
      pass_done Rest rest parts = go (eqb last began) refl
        where
          unchanged : last ≡ began → AfterPass Rest (clauses_of ws) before b (Ok None)
          unchanged e = let s = g.same e in (s.0, λ c m. ap (λ (x : List ℕ). status x c) (sym s.0) ∙ ⊎_elim (s.1 c) (still c) (parts c m))

          changed : ¬ (last ≡ began) → AfterPass Rest (clauses_of ws) before b (Ok (Some last))
          changed e = (g.extension, g.fewer e, rest g.passed_then g.ahead_then g.there still)

          go : (x : Bool) → eqb last began ≡ x → AfterPass Rest (clauses_of ws) before b (Ok (changed_at began last))
          go true e = let q = eqb-true last began e in rw (eq-eqb last began q) (unchanged q)
          go false e = let q = eqb-false last began e in rw (ne_eqb last began q) (changed q)
