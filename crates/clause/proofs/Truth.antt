-- The tests of literals, clauses and lists say what is true. Assumes nothing.
use mathlib.Core.Path.{◌≡◌, refl, sym, ◌∙◌}
use mathlib.Core.Logic.{◌↔◌, inl, inr, ⊎_elim}
use mathlib.Core.List.{List, [], ◌∷◌, ◌++◌}
use mathlib.Core.Bool.{Bool, true, false, cond, true≢false}
use Rattle.clause.specs.Meaning.{Literal, Clause, Values, LiteralTrue, ClauseTrue, AllTrue, same, literal_true, clause_true}

pub same_iff : (a b : Bool) → (same a b ≡ true) ↔ (a ≡ b)
same_iff true b = (sym, sym)
same_iff false true = (λ e. absurd (true≢false (sym e)), λ e. absurd (true≢false (sym e)))
same_iff false false = (λ e. refl, λ e. refl)

pub literal_true_lem : (v : Values) (l : Literal) → (literal_true v l ≡ true) ↔ LiteralTrue v l
literal_true_lem v l = same_iff (v l.of) l.says

pub clause_true_lem : (v : Values) (c : Clause) → (clause_true v c ≡ true) ↔ ClauseTrue v c
unfolding clause_true
clause_true_lem v [] = (λ e. absurd (true≢false (sym e)), λ x. absurd x)
clause_true_lem v (l ∷ c) = go (literal_true v l) refl (clause_true_lem v c)
  where
    go : (b : Bool) → literal_true v l ≡ b → (clause_true v c ≡ true) ↔ ClauseTrue v c → (cond b true (clause_true v c) ≡ true) ↔ ClauseTrue v (l ∷ c)
    go true e ih = (λ x. inl ((literal_true_lem v l).0 e), λ x. refl)
    go false e ih = (λ x. inr (ih.0 x), ⊎_elim (λ y. absurd (true≢false (sym ((literal_true_lem v l).1 y) ∙ e))) ih.1)

-- where no literal is true the test fails
pub clause_false : (v : Values) (c : Clause) → ¬ ClauseTrue v c → clause_true v c ≡ false
clause_false v c h = go (clause_true v c) refl
  where
    go : (b : Bool) → clause_true v c ≡ b → b ≡ false
    go true e = absurd (h ((clause_true_lem v c).0 e))
    go false e = refl

-- lists one after the other
pub all_append : (v : Values) (cs ds : List Clause) → AllTrue v (cs ++ ds) ↔ (AllTrue v cs × AllTrue v ds)
all_append v [] ds = (λ x. (tt, x), λ x. x.1)
all_append v (c ∷ cs) ds =
    let ih = all_append v cs ds in
    (λ x. ((x.0, (ih.0 x.1).0), (ih.0 x.1).1), λ x. (x.0.0, ih.1 (x.0.1, x.1)))
