-- VALUES THAT MAKE ALL CLAUSES TRUE: the literals that they make true, of the Booleans that the clauses have, are closed under unit clauses, without a
-- conflict. So all that is settled from some of them is true under such values. Assumes nothing.
use mathlib.Core.Path.{refl, sym, subst, ◌∙◌}
use mathlib.Core.Logic.{inl, inr, ⊎_elim}
use mathlib.Core.List.{List, [], ◌∷◌}
use Prim.Native.Nat.{ℕ, ◌≤◌}
use Rattle.clause.specs.Meaning.{Literal, Clause, Values, LiteralTrue, ClauseTrue, AllTrue}
use Rattle.propagation.specs.Derived.{HasLiteral, HasClause, UnitClosed, Conflicting, KnownIn}
use Rattle.propagation.proofs.Literals.{literals_decide, not_same}

-- a true clause has a literal that is true
some_true : (v : Values) (c : Clause) → ClauseTrue v c → (k : Literal) × HasLiteral c k × LiteralTrue v k
some_true v [] t = absurd t
some_true v (l ∷ c) (inl e) = (l, inl refl, e)
some_true v (l ∷ c) (inr t) = let s = some_true v c t in (s.0, inr s.1, s.2)

clause_in : (v : Values) (cs : List Clause) → AllTrue v cs → (c : Clause) → HasClause cs c → ClauseTrue v c
clause_in v [] t c m = absurd m
clause_in v (d ∷ cs) t c (inl e) = subst (ClauseTrue v) (sym e) t.0
clause_in v (d ∷ cs) t c (inr m) = clause_in v cs t.1 c m

-- true, if of a Boolean up to `last`
abbrev pub TrueUpTo : ℕ → Values → Literal → Type 0
TrueUpTo last v l = l.of ≤ last → LiteralTrue v l

module _ (last : ℕ) (v : Values) (cs : List Clause) (known : KnownIn last cs) (t : AllTrue v cs) where
  pub models_closed : UnitClosed cs (TrueUpTo last v)
  models_closed c m l n f h = go (some_true v c (clause_in v cs t c m))
    where
      go : (k : Literal) × HasLiteral c k × LiteralTrue v k → LiteralTrue v l
      go (k, i, e) = ⊎_elim (λ q. subst (LiteralTrue v) q e) (λ d. absurd (not_same k.says (sym (f k i d (known c m k i).1) ∙ e))) (literals_decide k l)

  pub models_no_conflict : Conflicting cs (TrueUpTo last v) → ⊥
  models_no_conflict (c, m, f) = go (some_true v c (clause_in v cs t c m))
    where
      go : (k : Literal) × HasLiteral c k × LiteralTrue v k → ⊥
      go (k, i, e) = not_same k.says (sym (f k i (known c m k i).1) ∙ e)
