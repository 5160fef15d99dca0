-- WHAT IS WRITTEN of a legal list is legal text that says this list, and it is short. A legal list is taken apart word by word: the text of each word, with
-- the blank before it, is a number of legal text. Assumes nothing.
use mathlib.Core.Path.{◌≡◌, refl, sym, ap, subst, subst₃}
use mathlib.Core.Logic.{inl, inr}
use mathlib.Core.Bool.{Bool, true, false, cond, not}
use mathlib.Core.List.{List, [], ◌∷◌, ◌++◌, append_assoc}
use Prim.Native.Nat.{ℕ, suc, ◌+◌, ◌*◌, ◌-◌, ◌≤◌, ◌<◌, max}
use native.Mathlib.Omega.{arith}
use lib.Dec.{eqb}
use lib.ListN.{length, length-append}
use borrow.Author.Tests.{eqb-true, eqb-false, eq-eqb, ne_eqb}
use Rattle.word.specs.Word.{kind, boolean, negated, last_boolean, last_count, end_word}
use Rattle.refusal.specs.Table.{passed}
use Rattle.text.specs.Decimal.{decimal}
use Rattle.text.proofs.Decimals.{digits_few, decimal_most}
use Rattle.clause.specs.Check.{list_from}
use Rattle.clause.proofs.Written.{word_is}
use Rattle.clause.proofs.Checked.{Lawful, lawful}
use Rattle.dimacs_text.specs.Text.{most_clauses, Blank, spaced, newline, space, none, blank, whole, Numbers, end, literal, close, sign, Spaces, AfterFirst, AfterCnf, Legal}
use Rattle.dimacs_text.specs.Written.{greatest, clause_count, word_text, body, written}
use Rattle.dimacs_writer.specs.Writes.{headed}
use Rattle.dimacs_writer.proofs.Turns.{word_end, boolean_few, literal_length, under_length}

-- ---- The counts

few : (l : ℕ) (ws : List ℕ) → Lawful l ws → l ≤ last_count
few l [] h = omega arith
few l (w ∷ ws) (inl h) = omega (arith, h.1)
few l (w ∷ ws) (inr h) = omega (arith, few (suc l) ws h.2)

no_end_lem : (w : ℕ) → kind w ≡ 2 → eqb (kind w) 3 ≡ false
no_end_lem w e = ne_eqb (kind w) 3 (λ x. omega arith)

closes : (l : ℕ) (ws : List ℕ) → Lawful (suc l) ws → 0 < clause_count ws
unfolding clause_count
closes l [] h = absurd (omega arith)
closes l (w ∷ ws) (inl h) = rw (eq-eqb (kind w) 3 h.0) (omega arith)
closes l (w ∷ ws) (inr h) = rw (no_end_lem w h.0) (closes (suc l) ws h.2)

greatest_most : (ws : List ℕ) → greatest ws ≤ last_boolean
unfolding greatest
greatest_most [] = omega arith
greatest_most (w ∷ ws) = go (eqb (kind w) 3) (greatest_most ws)
  where
    go : (p : Bool) → greatest ws ≤ last_boolean → cond p (greatest ws) (max (boolean w) (greatest ws)) ≤ last_boolean
    go true h = h
    go false h = omega arith

count_most : (ws : List ℕ) → clause_count ws ≤ length ws
unfolding clause_count
count_most [] = omega arith
count_most (w ∷ ws) = go (eqb (kind w) 3) (count_most ws)
  where
    go : (p : Bool) → clause_count ws ≤ length ws → cond p (suc (clause_count ws)) (clause_count ws) ≤ suc (length ws)
    go true h = omega arith
    go false h = omega arith

-- ---- The lines

-- the lines, behind a blank
lines : (n l : ℕ) (f : Bool) (b : ℕ) (ws : List ℕ) → Blank b → Lawful l ws → greatest ws ≤ n → Numbers n f l (clause_count ws) (b ∷ body ws) ws
unfolding greatest clause_count body
lines n l f b [] k h g = end (whole (blank k none))
lines n l f b (w ∷ ws) k (inl h) g =
    let e : end_word l ≡ w = omega (arith, h.0, h.1) in
    rw (eq-eqb (kind w) 3 h.0)
    (subst (λ (x : ℕ). Numbers n f l (suc (clause_count ws)) (b ∷ 48 ∷ 10 ∷ body ws) (x ∷ ws)) e
    (close (blank k none) (omega arith) (lines n 0 false 10 ws newline h.2 (rw (eq-eqb (kind w) 3 h.0) at g))))
lines n l f b (w ∷ ws) k (inr h) g = rw (no_end_lem w h.0) (at (lines n (suc l) false 32 ws (spaced space) h.2 (omega (arith, most))))
  where
    most : max (boolean w) (greatest ws) ≤ n
    most = rw (no_end_lem w h.0) at g

    minus : List ℕ
    minus = sign (not (negated w))

    some : suc (clause_count ws - 1) ≡ clause_count ws
    some = omega (arith, closes l ws h.2)

    text : minus ++ (decimal (boolean w) ++ (32 ∷ body ws)) ≡ minus ++ decimal (boolean w) ++ (32 ∷ []) ++ body ws
    text = simp append_assoc

    at : Numbers n false (suc l) (clause_count ws) (32 ∷ body ws) ws
        → Numbers n f l (clause_count ws) (b ∷ (minus ++ decimal (boolean w) ++ (32 ∷ []) ++ body ws)) (w ∷ ws)
    at r =
        subst₃ (λ (m : ℕ) (t : List ℕ) (x : ℕ). Numbers n f l m (b ∷ t) (x ∷ ws)) some text (word_is w h.0)
        (literal (not (negated w)) (boolean w) (blank k none) (omega arith) h.1 (omega (arith, most)) (few (suc l) ws h.2)
        (subst (λ (m : ℕ). Numbers n false (suc l) m (32 ∷ body ws) ws) (sym some) r))

-- THE WRITTEN FORM IS LEGAL TEXT that says its list
pub written_legal : (ws : List ℕ) → length ws ≤ most_clauses → list_from last_boolean 0 0 ws ≡ passed → Legal (written ws) ws
written_legal ws few e =
    ([], _, refl, (true, none), (112 ∷ [], _, refl, refl, (32 ∷ [], _, refl, one, (99 ∷ 110 ∷ 102 ∷ [], _, refl, refl, (32 ∷ [], _, refl, one, first)))))
  where
    one : Spaces (32 ∷ [])
    one = (omega arith, (space, tt))

    second : AfterFirst (greatest ws) ws (decimal (clause_count ws) ++ (10 ∷ body ws))
    second = (clause_count ws, _, refl, omega (arith, count_most ws), lines (greatest ws) 0 false 10 ws newline (lawful last_boolean 0 0 ws e) (omega arith))

    first : AfterCnf ws (decimal (greatest ws) ++ (32 ∷ []) ++ decimal (clause_count ws) ++ (10 ∷ []) ++ body ws)
    first = (greatest ws, 32 ∷ (decimal (clause_count ws) ++ (10 ∷ body ws)), simp append_assoc, greatest_most ws, (32 ∷ [], _, refl, one, second))

-- ---- Lengths

sign_few : (b : Bool) → length (sign b) ≤ 1
sign_few true = omega arith
sign_few false = omega arith

-- a literal takes at most eleven bytes, and an end word two
body_few : (ws : List ℕ) → length (body ws) + 9 * clause_count ws ≤ 11 * length ws
unfolding body clause_count
body_few [] = omega arith
body_few (w ∷ ws) = go (eqb (kind w) 3) refl (body_few ws)
  where
    go : (p : Bool) → eqb (kind w) 3 ≡ p → length (body ws) + 9 * clause_count ws ≤ 11 * length ws
        → length (word_text w ++ body ws) + 9 * cond p (suc (clause_count ws)) (clause_count ws) ≤ 11 * suc (length ws)
    go true e h = omega (arith, length-append (word_text w) (body ws), ap length (word_end w (eqb-true (kind w) 3 e)))
    go false e h =
        omega (
          arith,
          length-append (word_text w) (body ws),
          literal_length w refl refl (eqb-false (kind w) 3 e) refl,
          boolean_few w refl refl,
          sign_few (not (negated w)),
        )

-- THE WRITTEN FORM IS SHORT, whatever the words: an end word leaves nine bytes over, more than it adds to the digits of the clause count
pub written_few : (ws : List ℕ) → length (written ws) ≤ 11 * length ws + 18
written_few ws =
    omega (arith, under_length (headed ws) ws, digits_few 8 (greatest ws) (omega (arith, greatest_most ws)), decimal_most (clause_count ws), body_few ws)
