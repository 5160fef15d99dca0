-- WHAT THE REPLY SAYS: yes just where yes was said before the reply had a number, which is where the bytes are those of the words; and no with the number of
-- the first word whose bytes are not all there or are others, or with the count of words where all have theirs and more bytes follow. By induction on the words.
-- Assumes nothing.
use mathlib.Core.Path.{◌≡◌, refl, sym, ap, ◌∙◌}
use mathlib.Core.Logic.{◌↔◌, ◌⊎◌, inl, inr, ⊎_elim}
use mathlib.Core.List.{List, [], ◌∷◌}
use mathlib.Core.Bool.{Bool, true, false}
use Prim.Native.Nat.{ℕ, zero, suc, ◌+◌, ◌*◌, ◌<◌}
use native.Mathlib.Omega.{arith}
use lib.ListN.{length, drop, take-append-drop, length-drop}
use lib.Seq.{drop-drop}
use Rattle.std.specs.Prelude.{Option, Some, None}
use Rattle.comparer.specs.Bytes.{compared_values, bytes_of, same_bytes, begin_with, compared_from, compared}
use Rattle.comparer.specs.Four.{has_four, AllHave}
use Rattle.comparer.proofs.Lists.{eq_list_lem}
use Rattle.comparer.proofs.Turns.{word_apart, left_over}

-- WORD k IS THE FIRST THAT LACKS ITS FOUR BYTES OR DIFFERS FROM THEM; or there are k words, and only bytes are left over.
pub record FirstApart (bs ws : List ℕ) (k : ℕ) : Type 0 where
  pub earlier : AllHave bs ws k
  pub here : ((k < length ws) × (has_four bs ws k ≡ false)) ⊎ ((k ≡ length ws) × (k * 4 < length bs))

-- THE VALUES TELL THE REPLY: no two replies have the same.
pub compared_values_tell : (r s : Option ℕ) → compared_values r ≡ compared_values s → r ≡ s
compared_values_tell None None e = refl
compared_values_tell None (Some k) e = let z : ◌≡◌ {A = ℕ} 1 0 = λ i. (e i).same in absurd (omega arith)
compared_values_tell (Some k) None e = let z : ◌≡◌ {A = ℕ} 0 1 = λ i. (e i).same in absurd (omega arith)
compared_values_tell (Some j) (Some k) e = λ i. Some (e i).word

-- ---- The bytes are those of the words, or there is such a number

abbrev SomeApart : List ℕ → List ℕ → Type 0
SomeApart bs ws = (k : ℕ) × FirstApart bs ws k

-- One word more in front: the bytes of the other words stand behind its four.
has_behind : (bs ws : List ℕ) (w k : ℕ) → has_four bs (w ∷ ws) (suc k) ≡ has_four (drop 4 bs) ws k
has_behind bs ws w k = let e : suc k * 4 ≡ 4 + k * 4 = omega arith in rw (e, drop-drop (k * 4) 4 bs) refl

apart_behind : (bs ws : List ℕ) (w : ℕ) → begin_with bs w ≡ true → (k : ℕ) → FirstApart (drop 4 bs) ws k → FirstApart bs (w ∷ ws) (suc k)
apart_behind bs ws w e k x = record {
  earlier = before;
  here = ⊎_elim
      (λ h. inl (omega (arith, h.0), has_behind bs ws w k ∙ h.1))
      (λ h. inr (ap suc h.0, omega (arith, h.1, length-drop 4 bs)))
      x.here;
}
  where
    before : AllHave bs (w ∷ ws) (suc k)
    before zero h = e
    before (suc j) h = has_behind bs ws w j ∙ x.earlier j (omega arith)

same_or_apart : (bs ws : List ℕ) → (bs ≡ bytes_of ws) ⊎ SomeApart bs ws
unfolding bytes_of
same_or_apart [] [] = inl refl
same_or_apart (b ∷ bs) [] = inr (0, record { earlier = λ j h. absurd (omega arith); here = inr (refl, omega arith) })
same_or_apart bs (w ∷ ws) = go (begin_with bs w) refl (same_or_apart (drop 4 bs) ws)
  where
    go : (b : Bool) → begin_with bs w ≡ b → (drop 4 bs ≡ bytes_of ws) ⊎ SomeApart (drop 4 bs) ws → (bs ≡ bytes_of (w ∷ ws)) ⊎ SomeApart bs (w ∷ ws)
    go true e (inl s) = inl (sym (take-append-drop 4 bs) ∙ rw ((eq_list_lem _ _).0 e, s) refl)
    go true e (inr (k, x)) = inr (suc k, apart_behind bs ws w e k x)
    go false e s = inr (0, record { earlier = λ j h. absurd (omega arith); here = inl (omega arith, e) })

-- ---- The replies

same_says : (m : ℕ) (ws : List ℕ) → compared_from m (bytes_of ws) ws ≡ None
unfolding bytes_of compared_from
same_says m [] = refl
same_says m (w ∷ ws) = rw ((eq_list_lem (bytes_of (w ∷ [])) (bytes_of (w ∷ []))).1 refl) (same_says (suc m) ws)

module _ (bs ws : List ℕ) where
  first_says : (k : ℕ) → FirstApart bs ws k → compared bs ws ≡ Some k
  first_says k x =
      ⊎_elim (λ h. word_apart bs ws k x.earlier h.0 h.1) (λ h. left_over bs ws k x.earlier h.0 h.1) x.here

  -- THE REPLY IS YES just where the bytes are those of the words.
  pub same_bytes_lem : (compared bs ws ≡ None) ↔ (bs ≡ bytes_of ws)
  same_bytes_lem = (λ e. ⊎_elim (λ s. s) (other e) (same_or_apart bs ws), λ e. rw e (same_says 0 ws))
    where
      other : compared bs ws ≡ None → SomeApart bs ws → bs ≡ bytes_of ws
      other e (k, x) = let f = first_says k x in let z : ◌≡◌ {A = ℕ} 0 1 = cc in absurd (omega arith)

  -- YES IS SAID EXACTLY WHERE IT WAS BEFORE, when the reply was this test.
  pub same_as_before : (compared bs ws ≡ None) ↔ (same_bytes bs ws ≡ true)
  same_as_before = (λ e. (eq_list_lem bs (bytes_of ws)).1 (same_bytes_lem.0 e), λ e. same_bytes_lem.1 ((eq_list_lem bs (bytes_of ws)).0 e))

  -- NO IS SAID AT k just where k is that first word, or the count of words where only bytes are left over.
  pub first_apart : (k : ℕ) → (compared bs ws ≡ Some k) ↔ FirstApart bs ws k
  first_apart k = (λ e. ⊎_elim (other e) (this e) (same_or_apart bs ws), first_says k)
    where
      other : compared bs ws ≡ Some k → bs ≡ bytes_of ws → FirstApart bs ws k
      other e s = let f = same_bytes_lem.1 s in let z : ◌≡◌ {A = ℕ} 0 1 = cc in absurd (omega arith)

      this : compared bs ws ≡ Some k → SomeApart bs ws → FirstApart bs ws k
      this e (j, x) = let f = first_says j x in let z : j ≡ k = cc in rw (sym z) x
