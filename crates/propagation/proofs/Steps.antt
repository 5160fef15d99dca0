-- ONE CLAUSE: the literal of a unit clause is settled, and closes one open byte; a falsified clause is a conflict in what is settled. Assumes nothing.
use mathlib.Core.Path.{◌≡◌, refl, sym, ap, subst, ◌∙◌}
use mathlib.Core.Logic.{◌⊎◌, inl, inr, ⊎_elim}
use mathlib.Core.List.{List, [], ◌∷◌}
use mathlib.Core.Bool.{Bool, true, false, not}
use Prim.Native.Nat.{ℕ, zero, suc, ◌-◌, ◌≤◌, ◌<◌}
use native.Mathlib.Nat.{not-suc-le-zero, le_of_suc-le-suc}
use native.Mathlib.Omega.{arith}
use lib.Dec.{ltb, eqb}
use lib.ListN.{length, get_or, set, length-set}
use lib.Seq.{get_or-set_same, get_or-set_other}
use borrow.Author.Tests.{ltb-false, eqb-true, eqb-false}
use Rattle.clause.specs.Meaning.{Literal, Clause}
use Rattle.propagation.specs.Derived.{byte_of, byte, TrueIn, opposite, HasClause, Derived, given, implied, Conflicting, Bytes, KnownIn}
use Rattle.propagation.specs.Propagated.{unit, falsified, status, put_literal}
use Rattle.propagation.specs.Extension.{open_bit, open_count, SoundExtension}
use Rattle.propagation.proofs.Literals.{byte_same, OpenIn}
use Rattle.propagation.proofs.Status.{LastOpen, falsified_is, unit_is}

-- ---- Bytes that are put

put_other : (bs : List ℕ) (l : Literal) (b : ℕ) → 1 ≤ l.of → ¬ (b ≡ l.of) → byte_of (put_literal bs l) b ≡ byte_of bs b
put_other bs l zero h n = refl
put_other bs l (suc b) h n = get_or-set_other bs (l.of - 1) b (byte l.says) 2 (λ e. n (omega (arith, e)))

put_same : (bs : List ℕ) (l : Literal) (b : ℕ) → 1 ≤ l.of → l.of ≤ length bs → b ≡ l.of → byte_of (put_literal bs l) b ≡ byte l.says
put_same bs l zero h k e = absurd (omega arith)
put_same bs l (suc b) h k e =
    let f : b ≡ l.of - 1 = omega arith in
    ap (λ (x : ℕ). get_or (put_literal bs l) x 2) f ∙ get_or-set_same bs (l.of - 1) (byte l.says) 2 (omega arith)

-- a literal that is true after l was put is l, or was true before
put_true : (bs : List ℕ) (l k : Literal) → 1 ≤ l.of → l.of ≤ length bs → TrueIn (put_literal bs l) k → (k ≡ l) ⊎ TrueIn bs k
put_true bs l k h m t = go (eqb k.of l.of) refl
  where
    go : (x : Bool) → eqb k.of l.of ≡ x → (k ≡ l) ⊎ TrueIn bs k
    go true e =
        let f : k.of ≡ l.of = eqb-true k.of l.of e in
        let s : k.says ≡ l.says = byte_same k.says l.says (sym t ∙ put_same bs l k.of h m f) in
        inl (λ i. record { of = f i; says = s i })
    go false e = inr (sym (put_other bs l k.of h (eqb-false k.of l.of e)) ∙ t)

-- what was true stays, where l was open
put_keeps : (bs : List ℕ) (l k : Literal) → 1 ≤ l.of → OpenIn bs l → TrueIn bs k → TrueIn (put_literal bs l) k
put_keeps bs l k h o t = go (eqb k.of l.of) refl
  where
    one_of : (s x : Bool) → (byte_of bs l.of ≡ byte s → ⊥) → (byte_of bs l.of ≡ byte (not s) → ⊥) → byte_of bs l.of ≡ byte x → ⊥
    one_of true true p q g = p g
    one_of true false p q g = q g
    one_of false true p q g = q g
    one_of false false p q g = p g

    go : (x : Bool) → eqb k.of l.of ≡ x → TrueIn (put_literal bs l) k
    go true e = absurd (one_of l.says k.says o.0 o.1 (ap (byte_of bs) (sym (eqb-true k.of l.of e)) ∙ t))
    go false e = put_other bs l k.of h (eqb-false k.of l.of e) ∙ t

byte_le : (x : Bool) → byte x ≤ 2
byte_le true = omega arith
byte_le false = omega arith

set_bytes : (bs : List ℕ) (i : ℕ) (x : Bool) → Bytes bs → Bytes (set bs i (byte x))
set_bytes [] i x h = h
set_bytes (b ∷ bs) zero x h = (byte_le x, h.1)
set_bytes (b ∷ bs) (suc i) x h = (h.0, set_bytes bs i x h.1)

-- ---- How many bytes are open

bit_le : (x : Bool) → open_bit x ≤ 1
bit_le true = omega arith
bit_le false = omega arith

pub opens_le : (bs : List ℕ) → open_count bs ≤ length bs
opens_le [] = omega arith
opens_le (b ∷ bs) = omega (arith, bit_le (ltb 1 b), opens_le bs)

byte_shut : (x : Bool) → open_bit (ltb 1 (byte x)) ≡ 0
byte_shut true = refl
byte_shut false = refl

byte_open : (n : ℕ) → ¬ (n ≡ 0) → ¬ (n ≡ 1) → open_bit (ltb 1 n) ≡ 1
byte_open n p q = go (ltb 1 n) refl
  where
    go : (x : Bool) → ltb 1 n ≡ x → open_bit x ≡ 1
    go true e = refl
    go false e = let h = ltb-false 1 n e in absurd (omega arith)

fewer : (bs : List ℕ) (i : ℕ) (x : Bool) → i < length bs → open_bit (ltb 1 (get_or bs i 2)) ≡ 1 → suc (open_count (set bs i (byte x))) ≡ open_count bs
fewer [] i x h o = absurd (not-suc-le-zero h)
fewer (b ∷ bs) zero x h o = omega (arith, byte_shut x)
fewer (b ∷ bs) (suc i) x h o = omega (arith, fewer bs i x (le_of_suc-le-suc h) o)

put_fewer : (bs : List ℕ) (l : Literal) → 1 ≤ l.of → l.of ≤ length bs → OpenIn bs l → open_count (put_literal bs l) < open_count bs
put_fewer bs l h k o =
    omega (arith, fewer bs (l.of - 1) l.says (omega arith) (byte_open (get_or bs (l.of - 1) 2) (none l.says o false) (none l.says o true)))
  where
    at : (b : ℕ) → 1 ≤ b → byte_of bs b ≡ get_or bs (b - 1) 2
    at zero h = absurd (not-suc-le-zero h)
    at (suc b) h = let e : b ≡ suc b - 1 = omega arith in ap (λ (x : ℕ). get_or bs x 2) e

    none : (s : Bool) → (byte_of bs l.of ≡ byte s → ⊥) × (byte_of bs l.of ≡ byte (not s) → ⊥) → (x : Bool) → ¬ (get_or bs (l.of - 1) 2 ≡ byte x)
    none true p true e = p.0 (at l.of h ∙ e)
    none true p false e = p.1 (at l.of h ∙ e)
    none false p true e = p.1 (at l.of h ∙ e)
    none false p false e = p.0 (at l.of h ∙ e)

-- ---- Sound extensions

pub extension_start : (cs : List Clause) (bs : List ℕ) → Bytes bs → SoundExtension cs bs bs
extension_start cs bs h = record { sound = λ l t. given l t; keeps = λ l t. t; long = refl; legal = h }

-- what is settled from bytes that hold nothing but what is settled was settled from the start
pub settled_from : (cs : List Clause) (bs b : List ℕ) → ((l : Literal) → TrueIn b l → Derived cs bs l) → (l : Literal) → Derived cs b l → Derived cs bs l
settled_from cs bs b h l (given k t) = h k t
settled_from cs bs b h l (implied c m k n f) = implied c m k n (λ j i d. settled_from cs bs b h (opposite j) (f j i d))

pub extension_on : (cs : List Clause) (bs b d : List ℕ) → SoundExtension cs bs b → SoundExtension cs b d → SoundExtension cs bs d
extension_on cs bs b d p q =
    record {
      sound = λ l t. settled_from cs bs b p.sound l (q.sound l t);
      keeps = λ l t. q.keeps l (p.keeps l t);
      long = q.long ∙ p.long;
      legal = q.legal;
    }

module _ (cs : List Clause) (bs b : List ℕ) (known : KnownIn (length bs) cs) (way : SoundExtension cs bs b) (c : Clause) (in_list : HasClause cs c) where
  -- FALSIFIED: a conflict in what is settled
  pub falsified_conflict : status b c ≡ falsified → Conflicting cs (Derived cs bs)
  falsified_conflict e = (c, in_list, λ k m. way.sound (opposite k) ((falsified_is b c).0 e k m))

  -- UNIT: the literal is settled, and one byte fewer is open
  pub unit_extends : (l : Literal) → status b c ≡ unit l → SoundExtension cs bs (put_literal b l) × (open_count (put_literal b l) < open_count b)
  unit_extends l e = go ((unit_is b c l).0 e)
    where
      go : LastOpen b c l → SoundExtension cs bs (put_literal b l) × (open_count (put_literal b l) < open_count b)
      go h =
          let w = known c in_list l h.in_it in
          let u : l.of ≤ length b = omega (arith, w.1, way.long) in
          let new : Derived cs bs l = implied c in_list l h.in_it (λ k m n. way.sound (opposite k) (h.others k m n)) in (
            record {
              sound = λ k t. ⊎_elim (λ q. subst (λ (x : Literal). Derived cs bs x) (sym q) new) (way.sound k) (put_true b l k w.0 u t);
              keeps = λ k t. put_keeps b l k w.0 h.is_open (way.keeps k t);
              long = length-set b (l.of - 1) (byte l.says) ∙ way.long;
              legal = set_bytes b (l.of - 1) l.says way.legal;
            },
            put_fewer b l w.0 u h.is_open,
          )
