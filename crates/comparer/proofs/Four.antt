-- FOUR BYTES AND A WORD: that they are the word's bytes is one comparison, of the word that they make. Assumes nothing.
use mathlib.Core.Path.{◌≡◌, refl}
use mathlib.Core.List.{List, [], ◌∷◌}
use mathlib.Core.Bool.{Bool, true, false}
use Prim.Native.Nat.{ℕ, suc, ◌+◌, ◌*◌, ◌/◌, ◌%◌, ◌<◌}
use native.Mathlib.Omega.{arith}
use lib.Dec.{eqb}
use lib.ListN.{length, get_or, drop}
use lib.Seq.{drop-cons}
use borrow.Author.Tests.{eqb-true, eqb-false}
use Rattle.word.specs.Word.{of_bytes}
use Rattle.comparer.specs.Bytes.{bytes_of, eq_list}
use Rattle.comparer.proofs.Lists.{eq_list_lem, ne_list}

-- A word is its four bytes, taken apart one byte at a time.
word_joined : (w : ℕ) → w < 0x100000000 → of_bytes (w / 0x1000000 % 256) (w / 0x10000 % 256) (w / 0x100 % 256) (w % 256) ≡ w
word_joined w h =
    let high : w / 0x1000000 % 256 ≡ w / 0x1000000 = omega arith in
    let second : w / 0x10000 ≡ w / 0x1000000 * 256 + w / 0x10000 % 256 = omega arith in
    let third : w / 0x100 ≡ w / 0x10000 * 256 + w / 0x100 % 256 = omega arith in
    let last : w ≡ w / 0x100 * 256 + w % 256 = omega arith in
    omega arith

-- Four bytes are a word's just where they make it.
module _ (a b c d w : ℕ) (ha : a < 256) (hb : b < 256) (hc : c < 256) (hd : d < 256) (hw : w < 0x100000000) where
  makes : of_bytes a b c d ≡ w → ◌≡◌ {A = List ℕ} (a ∷ b ∷ c ∷ d ∷ []) (bytes_of (w ∷ []))
  unfolding bytes_of
  makes e =
      let first : a ≡ w / 0x1000000 % 256 = omega arith in
      let second : b ≡ w / 0x10000 % 256 = omega arith in
      let third : c ≡ w / 0x100 % 256 = omega arith in
      let last : d ≡ w % 256 = omega arith in
      cc

  made : ◌≡◌ {A = List ℕ} (a ∷ b ∷ c ∷ d ∷ []) (bytes_of (w ∷ [])) → of_bytes a b c d ≡ w
  unfolding bytes_of
  made e =
      let first : a ≡ w / 0x1000000 % 256 = cc in
      let second : b ≡ w / 0x10000 % 256 = cc in
      let third : c ≡ w / 0x100 % 256 = cc in
      let last : d ≡ w % 256 = cc in
      omega (arith, word_joined w hw)

  -- One comparison does for the four.
  pub one_comparison : eq_list (a ∷ b ∷ c ∷ d ∷ []) (bytes_of (w ∷ [])) ≡ eqb (of_bytes a b c d) w
  one_comparison = go (eqb (of_bytes a b c d) w) refl
    where
      go : (t : Bool) → eqb (of_bytes a b c d) w ≡ t → eq_list (a ∷ b ∷ c ∷ d ∷ []) (bytes_of (w ∷ [])) ≡ t
      go true e = (eq_list_lem _ _).1 (makes (eqb-true _ _ e))
      go false e = ne_list _ _ (λ f. eqb-false _ _ e (made f))

-- Four bytes of a list, and the bytes behind them.
pub four : (bs : List ℕ) (at : ℕ) → at + 3 < length bs
    → drop at bs ≡ get_or bs at 0 ∷ get_or bs (at + 1) 0 ∷ get_or bs (at + 2) 0 ∷ get_or bs (at + 3) 0 ∷ drop (at + 4) bs
four bs at h =
    let e1 : suc at ≡ at + 1 = omega arith in
    let e2 : suc (at + 1) ≡ at + 2 = omega arith in
    let e3 : suc (at + 2) ≡ at + 3 = omega arith in
    let e4 : suc (at + 3) ≡ at + 4 = omega arith in
    let d0 = rw e1 at (drop-cons bs at 0 (omega arith)) in
    let d1 = rw e2 at (drop-cons bs (at + 1) 0 (omega arith)) in
    let d2 = rw e3 at (drop-cons bs (at + 2) 0 (omega arith)) in
    let d3 = rw e4 at (drop-cons bs (at + 3) 0 h) in
    cc
