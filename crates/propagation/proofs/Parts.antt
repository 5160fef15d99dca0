-- PART OF THE CLAUSES FIRST: a conflict in a part of a list is one in the list, and from the bytes that a part reaches the list comes to what it comes to from the
-- start. Assumes nothing.
use mathlib.Core.Path.{◌≡◌, sym}
use mathlib.Core.List.{List}
use Prim.Native.Nat.{ℕ}
use lib.ListN.{length}
use Rattle.clause.specs.Meaning.{Literal, Clause}
use Rattle.propagation.specs.Derived.{opposite, HasClause, Derived, given, implied, Conflicting, Bytes, KnownIn}
use Rattle.propagation.specs.Propagated.{Outcome, conflict, reached, propagated}
use Rattle.propagation.specs.Extension.{SoundExtension}
use Rattle.propagation.proofs.Steps.{settled_from, extension_on}
use Rattle.propagation.proofs.Passes.{PassesEnd, propagated_ends}
use Rattle.propagation.proofs.Laws.{reached_is, conflict_is, settled_is, reached_long, reached_legal, reached_keeps}

module _ (ds cs : List Clause) (part : (c : Clause) → HasClause ds c → HasClause cs c) (bs : List ℕ) where
  -- what a part settles, the list does
  settled_in : (l : Literal) → Derived ds bs l → Derived cs bs l
  settled_in l (given k t) = given k t
  settled_in l (implied c m k n f) = implied c (part c m) k n (λ j i d. settled_in (opposite j) (f j i d))

  module _ (known : KnownIn (length bs) cs) (legal : Bytes bs) where
    known_part : KnownIn (length bs) ds
    known_part c m = known c (part c m)

    pub part_conflict : propagated ds bs ≡ conflict → propagated cs bs ≡ conflict
    part_conflict e = go ((conflict_is ds bs known_part legal).0 e)
      where
        go : Conflicting ds (Derived ds bs) → propagated cs bs ≡ conflict
        go (c, m, f) = (conflict_is cs bs known legal).1 (c, part c m, λ k i. settled_in (opposite k) (f k i))

    module _ (b : List ℕ) (e : propagated ds bs ≡ reached b) where
      extension : SoundExtension cs bs b
      extension =
          record {
            sound = λ l t. settled_in l ((settled_is ds bs known_part legal b e l).0 t);
            keeps = reached_keeps ds bs known_part legal b e;
            long = reached_long ds bs known_part legal b e;
            legal = reached_legal ds bs known_part legal b e;
          }

      known_there : KnownIn (length b) cs
      known_there = rw extension.long known

      pub part_first : propagated cs b ≡ propagated cs bs
      part_first = go (propagated cs b) (propagated_ends cs b known_there extension.legal)
        where
          go : (r : Outcome) → PassesEnd cs b known_there r → r ≡ propagated cs bs
          go conflict (c, m, f) = sym ((conflict_is cs bs known legal).1 (c, m, λ k i. settled_from cs bs b extension.sound (opposite k) (f k i)))
          go (reached d) (w, q) = sym (reached_is cs bs known legal d (extension_on cs bs b d extension w) q)
