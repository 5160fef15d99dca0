-- The turns of the writer's loops: what the definitions give from one word on, by this word and what they give from the next word on; and how long the pieces
-- of the text are. Each drops one word and settles the tests. Assumes nothing.
use mathlib.Core.Path.{◌≡◌, sym, ap, ◌∙◌}
use mathlib.Core.List.{List, [], ◌∷◌, ◌++◌}
use mathlib.Core.Bool.{Bool, true, false, not}
use Prim.Native.Nat.{ℕ, suc, ◌+◌, ◌≤◌, ◌<◌, max}
use native.Mathlib.Numerals.{add-one}
use native.Mathlib.Omega.{arith}
use lib.Dec.{leb}
use lib.ListN.{length, get_or, drop, length-append, drop_of_length-le}
use lib.Seq.{drop-cons}
use borrow.Author.Tests.{eq-eqb, ne_eqb, le-leb, lt-leb}
use Rattle.word.specs.Word.{kind, boolean, negated}
use Rattle.word.proofs.Kept.{Parts}
use Rattle.text.specs.Decimal.{decimal}
use Rattle.text.proofs.Decimals.{digits_few}
use Rattle.clause.specs.Meaning.{literal_of}
use Rattle.dimacs_text.specs.Text.{sign}
use Rattle.dimacs_text.specs.Written.{greatest, clause_count, header, literal_text, word_text, body}
use Rattle.dimacs_writer.specs.declared.Header.{Header}
use Rattle.dimacs_writer.specs.Writes.{text_under}

-- ---- The header's numbers

-- the words before `at` are counted
pub record Surveyed (ws : List ℕ) (most clauses at : ℕ) : Type 0 where
  pub within : at ≤ length ws
  pub fewer : clauses ≤ at
  pub top : greatest ws ≡ max most (greatest (drop at ws))
  pub many : clause_count ws ≡ clauses + clause_count (drop at ws)

pub survey_none : (ws : List ℕ) → Surveyed ws 0 0 0
survey_none ws = record { within = omega arith; fewer = omega arith; top = omega arith; many = omega arith }

module _ {ws : List ℕ} {most clauses at : ℕ} (h : at < length ws) (s : Surveyed ws most clauses at) {most' clauses' : ℕ} where
  pub survey_end : kind (get_or ws at 0) ≡ 3 → most' ≡ most → clauses' ≡ clauses + 1 → Surveyed ws most' clauses' (at + 1)
  unfolding greatest clause_count
  survey_end e m n =
      let t : greatest (drop at ws) ≡ greatest (drop (at + 1) ws) = rw (drop-cons ws at 0 h, eq-eqb (kind (get_or ws at 0)) 3 e, add-one) in
      let c : clause_count (drop at ws) ≡ suc (clause_count (drop (at + 1) ws)) = rw (drop-cons ws at 0 h, eq-eqb (kind (get_or ws at 0)) 3 e, add-one) in
      record { within = omega arith; fewer = omega (arith, s.fewer); top = omega (arith, s.top, t); many = omega (arith, s.many, c) }

  pub survey_literal : ¬ (kind (get_or ws at 0) ≡ 3) → most' ≡ max most (boolean (get_or ws at 0)) → clauses' ≡ clauses → Surveyed ws most' clauses' (at + 1)
  unfolding greatest clause_count
  survey_literal e m n =
      let t : greatest (drop at ws) ≡ max (boolean (get_or ws at 0)) (greatest (drop (at + 1) ws)) =
      rw (drop-cons ws at 0 h, ne_eqb (kind (get_or ws at 0)) 3 e, add-one) in
      let c : clause_count (drop at ws) ≡ clause_count (drop (at + 1) ws) = rw (drop-cons ws at 0 h, ne_eqb (kind (get_or ws at 0)) 3 e, add-one) in
      record { within = omega arith; fewer = omega (arith, s.fewer); top = omega (arith, s.top, t); many = omega (arith, s.many, c) }

pub survey_all : {ws : List ℕ} {most clauses at : ℕ} → length ws ≤ at → Surveyed ws most clauses at → (most ≡ greatest ws) × (clauses ≡ clause_count ws)
unfolding greatest clause_count
survey_all {ws} {at} h s =
    let t : greatest (drop at ws) ≡ 0 = ap greatest (drop_of_length-le ws {i = at} h) in
    let c : clause_count (drop at ws) ≡ 0 = ap clause_count (drop_of_length-le ws {i = at} h) in
    (omega (arith, s.top, t), omega (arith, s.many, c))

-- ---- The words

pub body_turn : (ws : List ℕ) (at : ℕ) → at < length ws → Parts (body (drop at ws)) (word_text (get_or ws at 0)) (body (drop (at + 1) ws))
unfolding body
body_turn ws at h = record { joined = rw (drop-cons ws at 0, add-one) }

pub body_none : (ws : List ℕ) (at : ℕ) → length ws ≤ at → body (drop at ws) ≡ []
unfolding body
body_none ws at h = ap body (drop_of_length-le ws {i = at} h)

pub word_end : (w : ℕ) → kind w ≡ 3 → 48 ∷ 10 ∷ [] ≡ word_text w
word_end w e = rw (eq-eqb (kind w) 3 e)

pub word_literal : (w : ℕ) → ¬ (kind w ≡ 3) → literal_text (literal_of w) ≡ word_text w
word_literal w e = rw (ne_eqb (kind w) 3 e)

-- ---- Lengths

pub word_length : (ws : List ℕ) (at : ℕ) → at < length ws → length (body (drop at ws)) ≡ length (word_text (get_or ws at 0)) + length (body (drop (at + 1) ws))
word_length ws at h = ap length (body_turn ws at h).joined ∙ length-append (word_text (get_or ws at 0)) (body (drop (at + 1) ws))

-- a literal's bytes, by its number's
module _ (w : ℕ) {b n : ℕ} (is : b ≡ boolean w) (digits : n ≡ length (decimal b)) where
  boolean_length : n ≡ length (decimal (boolean w))
  boolean_length = digits ∙ ap (λ (v : ℕ). length (decimal v)) is

  pub boolean_few : n ≤ 9
  boolean_few = omega (arith, boolean_length, digits_few 8 (boolean w) (omega arith))

  pub literal_length : {s : Bool} → ¬ (kind w ≡ 3) → negated w ≡ s → n + 1 + length (sign (not s)) ≡ length (word_text w)
  literal_length e f =
      let minus : List ℕ = sign (not (negated w)) in
      omega (
        arith,
        boolean_length,
        ap length (word_literal w e),
        ap (λ (x : Bool). length (sign (not x))) f,
        length-append (minus ++ decimal (boolean w)) (32 ∷ []),
        length-append minus (decimal (boolean w)),
      )

header_length : (n m : ℕ) → length (header n m) ≡ length (decimal n) + length (decimal m) + 8
header_length n m =
    let start : List ℕ = 112 ∷ 32 ∷ 99 ∷ 110 ∷ 102 ∷ 32 ∷ [] in
    omega (
      arith,
      length-append (start ++ decimal n ++ (32 ∷ []) ++ decimal m) (10 ∷ []),
      length-append (start ++ decimal n ++ (32 ∷ [])) (decimal m),
      length-append (start ++ decimal n) (32 ∷ []),
      length-append start (decimal n),
    )

pub under_length : (h : Header) (ws : List ℕ) → length (text_under h ws) ≡ length (decimal h.most) + length (decimal h.clauses) + 8 + length (body ws)
under_length h ws = length-append (header h.most h.clauses) (body ws) ∙ ap (λ (n : ℕ). n + length (body ws)) (header_length h.most h.clauses)

-- whether a header's line and a list find room
module _ (h : Header) (ws : List ℕ) (room : ℕ) where
  pub under_over : room < length (decimal h.most) + length (decimal h.clauses) + 8 + length (body ws) → false ≡ leb (length (text_under h ws)) room
  under_over k = sym (lt-leb (length (text_under h ws)) room (omega (arith, under_length h ws)))

  pub under_within : length (decimal h.most) + length (decimal h.clauses) + 8 + length (body ws) ≤ room → true ≡ leb (length (text_under h ws)) room
  under_within k = sym (le-leb (length (text_under h ws)) room (omega (arith, under_length h ws)))
