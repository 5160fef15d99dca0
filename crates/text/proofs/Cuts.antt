-- Writing piece by piece into a buffer that cuts: pieces that are written one after the other are written together, and what is in and what is left make up
-- the whole at each moment. Assumes nothing.
use mathlib.Core.Path.{◌≡◌, refl, sym, ap, ap₂, subst, ◌∙◌}
use mathlib.Core.List.{List, [], ◌∷◌, ◌++◌, append_assoc, append-nil}
use Prim.Native.Nat.{ℕ, zero, suc, ◌+◌, ◌≤◌, ◌<◌}
use native.Mathlib.Numerals.{add-one}
use native.Mathlib.Omega.{arith}
use lib.ListN.{length, take, drop, set, length-append, length-take, length-drop, length-set, take-append-drop}
use lib.Seq.{take_all, take_at, take-suc-set, take-append-le, drop-set-lt, length-take-le}
use Rattle.word.proofs.Kept.{rest_later, Parts}
use Rattle.text.specs.Cut.{past, Wrote, Printed}

-- a list that is cut already is cut no further
cut_append : (n : ℕ) (xs ys : List ℕ) → take n (take n xs ++ ys) ≡ take n (xs ++ ys)
cut_append zero xs ys = refl
cut_append (suc n) [] ys = refl
cut_append (suc n) (x ∷ xs) ys = ap (λ (l : List ℕ). x ∷ l) (cut_append n xs ys)

short_cut : (at : ℕ) (l : List ℕ) → length (take at l) ≤ length l
short_cut at l = omega (arith, length-take at l)

-- ---- Places

past_in : (room at : ℕ) → at < room → at + 1 ≡ past room at 1
unfolding past
past_in room at h = omega arith

past_off : (room at n : ℕ) → room ≤ at → at ≡ past room at n
unfolding past
past_off room at n h = omega arith

past_none : (room at : ℕ) → past room at 0 ≡ at
unfolding past
past_none room at = omega arith

past_onward : (room at n : ℕ) → at ≤ past room at n
unfolding past
past_onward room at n = omega arith

past_inside : (room at n : ℕ) → at ≤ room → past room at n ≤ room
unfolding past
past_inside room at n h = omega arith

past_then : (room at n m : ℕ) → past room (past room at n) m ≡ past room at (n + m)
unfolding past
past_then room at n m = omega arith

-- ---- A byte

pub put_in : (out : List ℕ) (at b : ℕ) → at < length out → Wrote (b ∷ []) at out (set out at b) (at + 1)
put_in out at b h =
    record {
      front =
          ap (λ (n : ℕ). take n (set out at b)) (add-one at)
          ∙ take-suc-set out at b h
          ∙ sym (take_all (length out) (take at out ++ (b ∷ [])) (omega (arith, length-append (take at out) (b ∷ []), length-take at out)));
      behind = drop-set-lt (at + 1) out at b (omega arith);
      kept = length-set out at b;
      reply = past_in (length out) at h;
    }

pub put_off : (out : List ℕ) (at : ℕ) (bs : List ℕ) → length out ≤ at → Wrote bs at out out at
put_off out at bs h =
    record {
      front =
          take_all at out h
          ∙ sym (take_all (length out) out (omega arith))
          ∙ ap (take (length out)) (sym (take_all at out h))
          ∙ sym (take-append-le (length out) (take at out) bs (omega (arith, length-take at out)));
      behind = refl;
      kept = refl;
      reply = past_off (length out) at (length bs) h;
    }

-- ---- Pieces

pub wrote_as : {xs ys a b : List ℕ} {at r : ℕ} → xs ≡ ys → Wrote xs at a b r → Wrote ys at a b r
wrote_as {a} {b} {at} {r} e w = subst (λ (bs : List ℕ). Wrote bs at a b r) e w

pub wrote_onward : {xs a b : List ℕ} {at r : ℕ} → Wrote xs at a b r → at ≤ r
wrote_onward {xs} {a} {at} w = subst (λ (n : ℕ). at ≤ n) (sym w.reply) (past_onward (length a) at (length xs))

pub wrote_then : {xs ys a b c : List ℕ} {at p r : ℕ} → Wrote xs at a b p → Wrote ys p b c r → Wrote (xs ++ ys) at a c r
wrote_then {xs} {ys} {a} {b} {c} {at} {p} {r} v w =
    record {
      front =
          w.front
          ∙ ap (λ (n : ℕ). take n (take p b ++ ys)) v.kept
          ∙ ap (λ (l : List ℕ). take (length a) (l ++ ys)) v.front
          ∙ cut_append (length a) (take at a ++ xs) ys
          ∙ ap (take (length a)) (append_assoc (take at a) xs ys);
      behind = w.behind ∙ rest_later a b p r (wrote_onward w) v.behind;
      kept = w.kept ∙ v.kept;
      reply =
          w.reply
          ∙ (λ i. past (v.kept i) (v.reply i) (length ys))
          ∙ past_then (length a) at (length xs) (length ys)
          ∙ ap (past (length a) at) (sym (length-append xs ys));
    }

-- ---- From the start of the list on

pub printed_of : {text before after : List ℕ} {r : ℕ} → take r after ≡ take (length before) text → drop r after ≡ drop r before → length after ≡ length before
    → r ≤ length before → Printed text before after r
printed_of {text} {before} {after} {r} front behind kept inside =
    let e : r ≡ length (take (length before) text) = sym (length-take-le r after (omega (arith, kept))) ∙ ap length front in
    record {
      reply = e;
      list = sym (take-append-drop r after) ∙ ap₂ (λ (x y : List ℕ). x ++ y) front (behind ∙ ap (λ (n : ℕ). drop n before) e);
    }

pub printed : {text a b : List ℕ} {r : ℕ} → Wrote text 0 a b r → Printed text a b r
printed {text} {a} w = printed_of w.front w.behind w.kept (subst (λ (n : ℕ). n ≤ length a) (sym w.reply) (past_inside (length a) 0 (length text) (omega arith)))

module _ {text before after : List ℕ} {r : ℕ} (p : Printed text before after r) where
  pub printed_front : take r after ≡ take (length before) text
  printed_front =
      ap (take r) p.list
      ∙ take_at (take (length before) text) (drop (length (take (length before) text)) before) r (sym p.reply)

  pub printed_kept : length after ≡ length before
  printed_kept =
      let n : ℕ = length (take (length before) text) in
      omega (
        arith,
        ap length p.list,
        length-append (take (length before) text) (drop n before),
        length-drop n before,
        length-take (length before) text,
      )

  pub printed_inside : r ≤ length after
  printed_inside = omega (arith, p.reply, length-take (length before) text, printed_kept)

  pub printed_count : r ≡ length (take r after)
  printed_count = sym (length-take-le r after printed_inside)

  -- A TEXT THAT FINDS ROOM stands there whole
  pub printed_all : length text ≤ length before → (r ≡ length text) × (after ≡ text ++ drop r before)
  printed_all h =
      let q : take (length before) text ≡ text = take_all (length before) text h in
      (p.reply ∙ ap length q, p.list ∙ ap₂ (λ (x : List ℕ) (k : ℕ). x ++ drop k before) q (sym p.reply))

-- ---- The whole, with what is left of it

-- of the bytes bs, to be written from `start` on, those before the place `at` are in, and `rest` is left
pub record Left (bs : List ℕ) (start : ℕ) (first rest : List ℕ) (at : ℕ) (out : List ℕ) : Type 0 where
  pub whole : take (length first) (take at out ++ rest) ≡ take (length first) (take start first ++ bs)
  pub behind : drop at out ≡ drop at first
  pub kept : length out ≡ length first
  pub ends : past (length first) at (length rest) ≡ past (length first) start (length bs)

pub left_all : (bs rest : List ℕ) (start : ℕ) (first : List ℕ) → bs ≡ rest → Left bs start first rest start first
left_all bs rest start first e = subst (λ (r : List ℕ). Left bs start first r start first) e (record { whole = refl; behind = refl; kept = refl; ends = refl })

pub left_less : {bs first rest piece more out after : List ℕ} {start at r : ℕ} → Parts rest piece more → Left bs start first rest at out
    → Wrote piece at out after r → Left bs start first more r after
left_less {bs} {first} {rest} {piece} {more} {out} {after} {start} {at} {r} e l w =
    record {
      whole =
          ap (λ (x : List ℕ). take (length first) (x ++ more)) (w.front ∙ ap (λ (n : ℕ). take n (take at out ++ piece)) l.kept)
          ∙ cut_append (length first) (take at out ++ piece) more
          ∙ ap (take (length first)) (append_assoc (take at out) piece more ∙ ap (λ (x : List ℕ). take at out ++ x) (sym e.joined))
          ∙ l.whole;
      behind = w.behind ∙ rest_later first out at r (wrote_onward w) l.behind;
      kept = w.kept ∙ l.kept;
      ends =
          ap (λ (k : ℕ). past (length first) k (length more)) (w.reply ∙ ap (λ (n : ℕ). past n at (length piece)) l.kept)
          ∙ past_then (length first) at (length piece) (length more)
          ∙ ap (past (length first) at) (sym (length-append piece more) ∙ ap length (sym e.joined))
          ∙ l.ends;
    }

pub left_none : {bs first rest out : List ℕ} {start at : ℕ} → rest ≡ [] → Left bs start first rest at out → Wrote bs start first out at
left_none {bs} {first} {rest} {out} {start} {at} e l =
    record {
      front =
          sym (take_all (length first) (take at out) (omega (arith, short_cut at out, l.kept)))
          ∙ ap (take (length first)) (sym (append-nil (take at out)) ∙ ap (λ (x : List ℕ). take at out ++ x) (sym e))
          ∙ l.whole;
      behind = l.behind;
      kept = l.kept;
      reply = sym (past_none (length first) at) ∙ ap (λ (xs : List ℕ). past (length first) at (length xs)) (sym e) ∙ l.ends;
    }

-- nothing is written
pub wrote_none : (out : List ℕ) (at : ℕ) → Wrote [] at out out at
wrote_none out at = left_none refl (left_all [] [] at out refl)
