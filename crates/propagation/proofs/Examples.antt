-- Exercise P's clause words, propagated by computing: nothing fixed, and Boolean 1 false. Assumes nothing.
use mathlib.Core.Path.{◌≡◌, refl}
use mathlib.Core.List.{List, [], ◌∷◌}
use Prim.Native.Nat.{ℕ}
use Rattle.clause.specs.Meaning.{clauses_of}
use Rattle.propagation.specs.Propagated.{status_from, conflict, reached, pass, passes, propagated}

abbrev words_p : List ℕ
words_p =
    0x80000002 ∷ 0xC0000001 ∷ 0xA0000003 ∷ 0xC0000001 ∷ 0x80000004 ∷ 0xC0000001
    ∷ 0xA0000004 ∷ 0x80000002 ∷ 0xC0000002 ∷ 0xA0000004 ∷ 0x80000001 ∷ 0x80000003 ∷ 0xC0000003 ∷ []

pub open_p : propagated (clauses_of words_p) (2 ∷ 2 ∷ 2 ∷ 2 ∷ []) ≡ reached (1 ∷ 1 ∷ 0 ∷ 1 ∷ [])
unfolding propagated passes pass status_from clauses_of
open_p = refl

pub one_p : propagated (clauses_of words_p) (0 ∷ 2 ∷ 2 ∷ 2 ∷ []) ≡ conflict
unfolding propagated passes pass status_from clauses_of
one_p = refl

-- A literal that is repeated counts once; with its opposite beside it the clause is not unit; an empty clause is a conflict.
pub repeated : propagated (clauses_of (0x80000001 ∷ 0x80000001 ∷ 0xC0000002 ∷ [])) (2 ∷ []) ≡ reached (1 ∷ [])
unfolding propagated passes pass status_from clauses_of
repeated = refl

pub both_ways : propagated (clauses_of (0x80000001 ∷ 0xA0000001 ∷ 0xC0000002 ∷ [])) (2 ∷ []) ≡ reached (2 ∷ [])
unfolding propagated passes pass status_from clauses_of
both_ways = refl

pub empty_one : propagated (clauses_of (0xC0000000 ∷ [])) (2 ∷ []) ≡ conflict
unfolding propagated passes pass status_from clauses_of
empty_one = refl
