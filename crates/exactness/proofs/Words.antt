-- THE CLAUSE WORDS OF A RIGHT DRAWING ARE EXACT, wherever they are a legal list for the values; and the claim is the same for any predicate that holds of the
-- same values. Assumes nothing.
use mathlib.Core.Path.{◌≡◌, sym, subst}
use mathlib.Core.Logic.{◌↔◌}
use mathlib.Core.List.{List}
use Prim.Native.Nat.{ℕ, ◌+◌, ◌≤◌}
use native.Mathlib.Nat.{le_refl}
use lib.IntN.{ℤ}
use lib.ListN.{length}
use Rattle.word.specs.Word.{last_boolean}
use Rattle.word.specs.Edge.{Edge}
use Rattle.refusal.specs.Table.{passed}
use Rattle.diagram.specs.Level.{Level, AllAscend}
use Rattle.diagram.specs.Table.{Node}
use Rattle.diagram.specs.Right.{Right}
use Rattle.clause.specs.Meaning.{Clause, Values, clauses_of}
use Rattle.clause.specs.Check.{list_from}
use Rattle.clause.proofs.Written.{read_written}
use Rattle.clause.proofs.Checked.{words_pass}
use Rattle.encoding.specs.Boolean.{orders}
use Rattle.encoding.specs.Pattern.{pattern, clause_words}
use Rattle.encoding.specs.Claim.{Solves}
use Rattle.encoding.proofs.Fits.{pattern_fit}
use Rattle.propagation.specs.Derived.{Bytes, KnownIn}
use Rattle.propagation.specs.Propagated.{Outcome, propagated}
use Rattle.propagator.proofs.Places.{listed_known}
use Rattle.exactness.specs.Exact.{Completion, AuxiliaryOpen, Exact}
use Rattle.exactness.proofs.Drawing.{drawing_exact}

-- ANOTHER PREDICATE that holds of the same values
module _ (S T : Values → Type 0) (D : ℕ) (bs : List ℕ) (z : Outcome) (same : (v : Values) → S v ↔ T v) where
  into : (v : Values) → Completion S D bs v → Completion T D bs v
  into v c = record { solution = (same v).0 c.solution; keeps = c.keeps }

  from : (v : Values) → Completion T D bs v → Completion S D bs v
  from v c = record { solution = (same v).1 c.solution; keeps = c.keeps }

  pub exact_for : Exact S D bs z → Exact T D bs z
  exact_for x =
      record {
        conflicts = (λ e v c. x.conflicts.0 e v (from v c), λ h. x.conflicts.1 (λ v c. h v (into v c)));
        completes = λ b e. let t = x.completes b e in (t.0, into t.0 t.1);
        settles = λ b e k h m. (
          λ s v w c d. (x.settles b e k h m).0 s v w (from v c) (from w d),
          λ a. (x.settles b e k h m).1 (λ v w c d. a v w (into v c) (into w d)),
        );
        agrees = λ b e k h m y f v c. x.agrees b e k h m y f v (from v c);
      }

-- ANY RIGHT DRAWING whose last Boolean fits its word
module _ (ls : List Level) (a : ℤ) (ns : List Node) (top : Edge) (g : AllAscend ls) (r : Right ls a ns top) (fits : orders ls + 2 + length ns ≤ last_boolean)
    (bs : List ℕ) (listed : list_from (length bs) 0 0 (clause_words ls top ns) ≡ passed) (legal : Bytes bs)
    (aux : AuxiliaryOpen (orders ls) (length ns) bs) where
  abbrev last : ℕ
  last = orders ls + 2 + length ns

  read : clauses_of (clause_words ls top ns) ≡ pattern ls top ns
  read = read_written last fits (pattern ls top ns) (pattern_fit ls a ns top r)

  -- its Booleans are among those that a legal list for n values may have
  known : (n : ℕ) → list_from n 0 0 (clause_words ls top ns) ≡ passed → KnownIn n (pattern ls top ns)
  known n passes = subst (KnownIn n) read (listed_known n (clause_words ls top ns) passes)

  pub words_exact : Exact (Solves ls a) (orders ls) bs (propagated (clauses_of (clause_words ls top ns)) bs)
  words_exact =
      subst (λ (cs : List Clause). Exact (Solves ls a) (orders ls) bs (propagated cs bs)) (sym read)
      (drawing_exact ls a ns top g r bs (known (length bs) listed) (known last (words_pass last last fits (le_refl last) (pattern ls top ns) 0 (pattern_fit ls a ns top r))) legal aux)
