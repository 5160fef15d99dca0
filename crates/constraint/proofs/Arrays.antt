-- THE ARRAYS OF A RECORD as a call lends them to what goes by slices: their first places are the slices of the constraint. Assumes nothing.
use mathlib.Core.Path.{◌≡◌, sym, ap, subst, ◌∙◌}
use mathlib.Core.List.{List, map}
use Prim.Native.Nat.{ℕ, suc, ◌+◌, ◌-◌, ◌≤◌}
use native.Mathlib.Omega.{arith}
use lib.ListN.{length, take, replicate, length-append, length-map, length-replicate}
use Rattle.word.specs.Padded.{padded}
use Rattle.diagram.specs.Constraint.{Term, Constraint, levels, Within, most_terms}
use Rattle.diagram.proofs.Terms.{levels_length}
use Rattle.encoding.specs.Boolean.{orders}
use Rattle.constraint_bound.specs.Bound.{bound_of}
use Rattle.constraint.specs.Held.{rests_of, held_of}
use Rattle.constraint.specs.Lent.{terms_of, levels_of, Lent}
use Rattle.constraint.specs.declared.Constraint.{Constraint as Held}
use Rattle.constraint.proofs.Laws.{length_rests}
use Rattle.constraint.proofs.Slices.{record_lent}

padded_length : (n : ℕ) (xs : List ℕ) → length xs ≤ n → length (padded n xs) ≡ n
padded_length n xs h = omega (arith, length-append xs (replicate (n - length xs) 0), length-replicate {A = ℕ} (n - length xs) 0)

-- What a callee that takes the arrays and the number of terms asks of a record.
pub record Arrays (c : Held) : Type 0 where
  pub long : (c.terms ≤ length c.coefficients) × (c.terms ≤ length c.ends) × (c.terms + 1 ≤ length c.rests)
  pub lent : Lent (take c.terms c.coefficients) (take c.terms c.ends) (take (c.terms + 1) c.rests)
  pub booleans : c.orders ≡ orders (levels_of (take c.terms c.coefficients) (take c.terms c.ends))

module _ (k : Constraint) (within : Within k) where
  arrays_of : Arrays (held_of k)
  unfolding held_of
  arrays_of =
      let ts = k.terms in
      let l = record_lent k within in
      let f = within.few in
      let one : length ts + 1 ≡ suc (length ts) = omega arith in
      record {
        long = (
          omega (arith, padded_length most_terms (map (λ (t : Term). t.coef) ts) (rw length-map f)),
          omega (arith, padded_length most_terms (map (λ (t : Term). t.end) ts) (rw length-map f)),
          omega (arith, padded_length (suc most_terms) (rests_of (levels ts)) (omega (arith, length_rests (levels ts), levels_length ts)), length_rests (levels ts)),
        );
        lent = subst (λ (n : ℕ). Lent (take (length ts) (held_of k).coefficients) (take (length ts) (held_of k).ends) (take n (held_of k).rests)) (sym one) l.1;
        booleans = ap (λ (us : List Term). orders (levels us)) (sym l.0);
      }

  terms_of_lem : terms_of (take (held_of k).terms (held_of k).coefficients) (take (held_of k).terms (held_of k).ends) ≡ k.terms
  unfolding held_of
  terms_of_lem = (record_lent k within).0

  module _ (c : Held) (is : c ≡ held_of k) where
    pub arrays : Arrays c
    arrays = subst Arrays (sym is) arrays_of

    -- the terms of the slices are the constraint's, and the record's bound is the constraint's
    pub terms_held : terms_of (take c.terms c.coefficients) (take c.terms c.ends) ≡ k.terms
    terms_held = ap (λ (h : Held). terms_of (take h.terms h.coefficients) (take h.terms h.ends)) is ∙ terms_of_lem

    pub bound_held : c.bound ≡ bound_of k.bound
    unfolding held_of
    bound_held = ap (λ (h : Held). h.bound) is

    pub orders_held : c.orders ≡ orders (levels k.terms)
    unfolding held_of
    orders_held = ap (λ (h : Held). h.orders) is

    pub terms_few : c.terms ≤ most_terms
    unfolding held_of
    terms_few = subst (λ (h : Held). h.terms ≤ most_terms) (sym is) within.few
