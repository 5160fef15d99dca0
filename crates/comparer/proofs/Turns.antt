-- THE TURNS OF THE COMPARER'S LOOPS: which words have their four bytes, and what the reply is where all those before word k have. Assumes nothing.
use mathlib.Core.Path.{◌≡◌, refl, sym, ap, ◌∙◌}
use mathlib.Core.Logic.{⊎_elim}
use mathlib.Core.List.{List, [], ◌∷◌}
use mathlib.Core.Bool.{Bool, true, false, ◌&&◌}
use Prim.Native.Nat.{ℕ, zero, suc, ◌+◌, ◌*◌, ◌≤◌, ◌<◌}
use native.Mathlib.Nat.{eq-or-lt_of_le}
use native.Mathlib.Omega.{arith}
use lib.Dec.{eqb}
use lib.ListN.{length, get_or, take, drop, drop_of_length-le, length-take, length-drop}
use lib.Seq.{drop-cons, drop-drop}
use Rattle.word.specs.Word.{of_bytes}
use Rattle.word.proofs.Tests.{both_true}
use Rattle.std.specs.Prelude.{Some, None}
use Rattle.comparer.specs.Bytes.{bytes_of, compared_from, compared}
use Rattle.comparer.specs.Four.{has_four, AllHave}
use Rattle.comparer.proofs.Lists.{ne_list}
use Rattle.comparer.proofs.Four.{one_comparison, four}

module _ (bs ws : List ℕ) where
  -- One comparison tells whether word k has its four bytes, where there are four.
  pub four_test : (k : ℕ) → k * 4 + 3 < length bs → ((i : ℕ) → get_or bs i 0 < 256) → get_or ws k 0 < 0x100000000
      → eqb (of_bytes (get_or bs (k * 4) 0) (get_or bs (k * 4 + 1) 0) (get_or bs (k * 4 + 2) 0) (get_or bs (k * 4 + 3) 0)) (get_or ws k 0) ≡ has_four bs ws k
  four_test k whole bound small =
      rw (four bs (k * 4) whole) (sym (one_comparison _ _ _ _ _ (bound (k * 4)) (bound (k * 4 + 1)) (bound (k * 4 + 2)) (bound (k * 4 + 3)) small))

  -- Where there are fewer than four, word k lacks some.
  too_few : (k : ℕ) → length bs < k * 4 + 4 → has_four bs ws k ≡ false
  unfolding bytes_of
  too_few k h =
      ne_list (take 4 (drop (k * 4) bs)) (bytes_of (get_or ws k 0 ∷ []))
      (λ e. omega (arith, ap length e, length-take 4 (drop (k * 4) bs), length-drop (k * 4) bs))

  -- One word more has its bytes; four more have theirs.
  one_more : (k n : ℕ) → n ≡ suc k → AllHave bs ws k → has_four bs ws k ≡ true → AllHave bs ws n
  one_more k n next all e j h = ⊎_elim (λ f. rw f e) (λ l. all j l) (eq-or-lt_of_le {n = j} {m = k} (omega arith))

  pub four_more : (k : ℕ) {a b c d : Bool} → a ≡ has_four bs ws k → b ≡ has_four bs ws (k + 1) → c ≡ has_four bs ws (k + 2) → d ≡ has_four bs ws (k + 3)
      → (((a && b) && c) && d) ≡ true → AllHave bs ws k → AllHave bs ws (k + 4)
  four_more k {a} {b} {c} {d} ea eb ec ed e all =
      let three = both_true ((a && b) && c) d e in
      let two = both_true (a && b) c three.0 in
      let one = both_true a b two.0 in
      one_more (k + 3) (k + 4) (omega arith)
      (one_more (k + 2) (k + 3) (omega arith)
      (one_more (k + 1) (k + 2) (omega arith) (one_more k (k + 1) (omega arith) all (sym ea ∙ one.0)) (sym eb ∙ one.1))
      (sym ec ∙ two.1))
      (sym ed ∙ three.1)

  -- Where the words before word k have theirs, the reply is the one from word k on.
  past : (k : ℕ) → k ≤ length ws → AllHave bs ws k → compared bs ws ≡ compared_from k (drop (k * 4) bs) (drop k ws)
  unfolding compared_from
  past zero l all = refl
  past (suc k) l all =
      let e : suc k * 4 ≡ k * 4 + 4 = omega arith in
      past k (omega arith) (λ j h. all j (omega arith))
      ∙ rw (drop-cons ws k 0 l, all k (omega arith), drop-drop 4 (k * 4) bs, e) refl

  module _ (k : ℕ) (all : AllHave bs ws k) where
    -- Word k lacks some of its four bytes or differs from them.
    pub word_apart : k < length ws → has_four bs ws k ≡ false → compared bs ws ≡ Some k
    unfolding compared_from
    word_apart h e = past k (omega arith) all ∙ rw (drop-cons ws k 0 h, e)

    -- Only bytes are left over.
    pub left_over : k ≡ length ws → k * 4 < length bs → compared bs ws ≡ Some k
    unfolding compared_from
    left_over h l = past k (omega arith) all ∙ rw (drop_of_length-le ws {i = k} (omega arith), drop-cons bs (k * 4) 0 l)

    -- Nothing is left over.
    pub none_left : k ≡ length ws → k * 4 ≡ length bs → compared bs ws ≡ None
    unfolding compared_from
    none_left h l = past k (omega arith) all ∙ rw (drop_of_length-le ws {i = k} (omega arith), drop_of_length-le bs {i = k * 4} (omega arith))

    -- There is no further full word, and the bytes are not as many as those of the words.
    pub ends_apart : k ≤ length ws → k * 4 ≤ length bs → (k < length ws → length bs < k * 4 + 4) → ¬ (length bs ≡ length ws * 4)
        → compared bs ws ≡ Some k
    ends_apart h l few n =
        ⊎_elim
        (λ e. left_over e (omega (arith, e)))
        (λ i. word_apart i (too_few k (few i)))
        (eq-or-lt_of_le h)
