-- ONE LITERAL MORE: what a clause comes to with it, by the literal's word and the byte of its Boolean. Assumes nothing.
use mathlib.Core.Path.{◌≡◌, refl, sym, ap, ap₂, ◌∙◌}
use mathlib.Core.List.{List, [], ◌∷◌}
use mathlib.Core.Bool.{Bool, true, false, cond, not}
use Prim.Native.Nat.{ℕ, zero, suc, ◌-◌, ◌≤◌, ◌<◌}
use native.Mathlib.Nat.{not-suc-le-zero, le_of_suc-le-suc}
use native.Mathlib.Omega.{arith}
use lib.Dec.{eqb}
use lib.ListN.{length, get_or}
use borrow.Author.Tests.{eq-eqb, ne_eqb, eqb-true, eqb-false}
use Rattle.word.specs.Word.{kind, boolean, literal_word}
use Rattle.clause.specs.Meaning.{Literal, literal_of}
use Rattle.clause.proofs.Written.{word_is}
use Rattle.propagation.specs.Derived.{byte_of, byte}
use Rattle.propagation.specs.Propagated.{Status, neither, unit, same_literal, met_open, met_by, met}
use Rattle.propagation.proofs.Literals.{same_literal-true}
use Rattle.propagator.specs.Pass.{so_far, LiteralWord, Found}

-- ---- Bytes

pub byte_negated : (x : Bool) → x ≡ true → 0 ≡ byte (not x)
byte_negated x e = ap (λ (y : Bool). byte (not y)) (sym e)

pub byte_plain : (x : Bool) → x ≡ false → 1 ≡ byte (not x)
byte_plain x e = ap (λ (y : Bool). byte (not y)) (sym e)

-- one of the two bytes, and not that of x
other_byte : (x : Bool) (n : ℕ) → ¬ (n ≡ byte x) → n < 2 → n ≡ byte (not x)
other_byte true n d h = omega arith
other_byte false n d h = omega arith

no_byte : (x : Bool) (n : ℕ) → 2 ≤ n → ¬ (n ≡ byte x)
no_byte true n h e = omega arith
no_byte false n h e = omega arith

-- a byte by its Boolean
byte_at : (bs : List ℕ) (b : ℕ) → 1 ≤ b → b ≤ length bs → get_or bs (b - 1) 0 ≡ byte_of bs b
byte_at bs zero h k = absurd (not-suc-le-zero h)
byte_at bs (suc b) h k = let e : suc b - 1 ≡ b = omega arith in ap (λ (x : ℕ). get_or bs x 0) e ∙ any_default bs b k
  where
    any_default : (xs : List ℕ) (i : ℕ) → i < length xs → get_or xs i 0 ≡ get_or xs i 2
    any_default [] i h = absurd (not-suc-le-zero h)
    any_default (x ∷ xs) zero h = refl
    any_default (x ∷ xs) (suc i) h = any_default xs i (le_of_suc-le-suc h)

-- ---- The word that is found

pub so_far-literal : (w : ℕ) → kind w ≡ 2 → so_far w ≡ unit (literal_of w)
so_far-literal w h = rw (ne_eqb w 0 (λ e. omega (arith, e)), ne_eqb w 0xC0000000 (λ e. omega (arith, e)))

pub nothing_met : (n : ℕ) → Found n 0xC0000000
nothing_met n d e = absurd (e refl)

-- nothing is left to ask for: so it stays
pub neither_met : (bs : List ℕ) (l : Literal) → met bs l neither ≡ neither
neither_met bs l = go (eqb (byte_of bs l.of) (byte l.says)) (eqb (byte_of bs l.of) (byte (not l.says)))
  where
    go : (x y : Bool) → cond x neither (cond y neither neither) ≡ neither
    go true y = refl
    go false true = refl
    go false false = refl

-- the word w of a literal, and what was found before it; the byte of its Boolean b is v
module _ (bs : List ℕ) (found w b : ℕ) (is : LiteralWord (length bs) w) (ok : Found (length bs) found) (of : b ≡ boolean w) where
  abbrev v : ℕ
  v = get_or bs (b - 1) 0

  by_byte : (s : Status) → s ≡ met_by v (literal_of w) (so_far found) → s ≡ met bs (literal_of w) (so_far found)
  by_byte s e =
      e ∙ ap (λ (n : ℕ). met_by n (literal_of w) (so_far found)) (ap (λ (x : ℕ). get_or bs (x - 1) 0) of ∙ byte_at bs (boolean w) is.1 is.2)

  pub meet_true : v ≡ byte (literal_of w).says → so_far 0xC0000000 ≡ met bs (literal_of w) (so_far found)
  meet_true e = by_byte neither (rw (eq-eqb v (byte (literal_of w).says) e))

  pub meet_false : ¬ (v ≡ byte (literal_of w).says) → v < 2 → so_far found ≡ met bs (literal_of w) (so_far found)
  meet_false e h =
      by_byte (so_far found)
      (rw (ne_eqb v (byte (literal_of w).says) e, eq-eqb v (byte (not (literal_of w).says)) (other_byte (literal_of w).says v e h)))

  module _ (h : 2 ≤ v) where
    by_open : (s : Status) → s ≡ met_open (literal_of w) (so_far found) → s ≡ met bs (literal_of w) (so_far found)
    by_open s e =
        by_byte s
        (e ∙ sym (rw (ne_eqb v (byte (literal_of w).says) (no_byte (literal_of w).says v h), ne_eqb v (byte (not (literal_of w).says)) (no_byte (not (literal_of w).says) v h))))

    pub meet_first : found ≡ 0 → so_far w ≡ met bs (literal_of w) (so_far found)
    meet_first e = by_open (so_far w) (so_far-literal w is.0 ∙ sym (ap (λ (x : ℕ). met_open (literal_of w) (so_far x)) e))

    -- a second open literal, beside the one that was found
    second : kind found ≡ 2 → met_open (literal_of w) (so_far found) ≡ cond (same_literal (literal_of w) (literal_of found)) (unit (literal_of found)) neither
    second d = ap (met_open (literal_of w)) (so_far-literal found d)

    same_word : kind found ≡ 2 → same_literal (literal_of w) (literal_of found) ≡ true → found ≡ w
    same_word d e =
        let q : literal_of w ≡ literal_of found = same_literal-true (literal_of w) (literal_of found) e in
        sym (word_is found d) ∙ ap₂ literal_word (ap (λ (x : Literal). x.says) (sym q)) (ap (λ (x : Literal). x.of) (sym q)) ∙ word_is w is.0

    pub meet_same : found ≡ w → so_far found ≡ met bs (literal_of w) (so_far found)
    meet_same e =
        let d : kind found ≡ 2 = ap kind e ∙ is.0 in
        by_open (so_far found)
        (so_far-literal found d
        ∙ sym (second d ∙ ap (λ (y : Bool). cond y (unit (literal_of found)) neither) (ap₂ same_literal (ap literal_of (sym e)) refl ∙ itself (literal_of found))))
      where
        itself : (k : Literal) → same_literal k k ≡ true
        itself k = rw (eq-eqb k.of k.of refl) (says k.says)
          where
            says : (x : Bool) → same_literal (record { of = 0; says = x }) (record { of = 0; says = x }) ≡ true
            says true = refl
            says false = refl

    pub meet_second : ¬ (found ≡ 0) → ¬ (found ≡ w) → so_far 0xC0000000 ≡ met bs (literal_of w) (so_far found)
    meet_second d n = by_open neither (go (eqb found 0xC0000000) refl)
      where
        differ : kind found ≡ 2 → (x : Bool) → same_literal (literal_of w) (literal_of found) ≡ x → cond x (unit (literal_of found)) neither ≡ neither
        differ k true e = absurd (n (same_word k e))
        differ k false e = refl

        go : (x : Bool) → eqb found 0xC0000000 ≡ x → neither ≡ met_open (literal_of w) (so_far found)
        go true e = sym (ap (λ (x : ℕ). met_open (literal_of w) (so_far x)) (eqb-true found 0xC0000000 e))
        go false e =
            let k : kind found ≡ 2 = (ok d (eqb-false found 0xC0000000 e)).0 in
            sym (second k ∙ differ k (same_literal (literal_of w) (literal_of found)) refl)
