-- Writing piece by piece: pieces that are written one after the other are written together. What is in and what is left make up the whole at each moment.
-- Assumes nothing.
use mathlib.Core.Path.{◌≡◌, refl, sym, ap, subst, ◌∙◌}
use mathlib.Core.List.{List, [], ◌++◌, append_assoc, append-nil}
use Prim.Native.Nat.{ℕ, ◌+◌, ◌≤◌}
use native.Mathlib.Omega.{arith}
use lib.ListN.{length, take, drop, length-append}
use lib.Seq.{sets, length-sets, sets-eq, take_at, drop_at, length-take-le}
use Rattle.word.proofs.Kept.{rest_later, Parts}
use Rattle.clause_buffer.specs.Written.{Room, WroteWords}

-- words that are stored one by one are written
pub stored_words : (ws : List ℕ) (at r : ℕ) (out after : List ℕ) → Room ws at out → r ≡ at + length ws → after ≡ sets out at ws → WroteWords ws at out after r
stored_words ws at r out after room e f =
    record {
      place = e;
      front = ap (take r) whole ∙ take_at (take at out ++ ws) (drop (at + length ws) out) r long;
      rest = ap (drop r) whole ∙ drop_at (take at out ++ ws) (drop (at + length ws) out) r long ∙ ap (λ (k : ℕ). drop k out) (sym e);
      kept = ap length f ∙ length-sets out at ws;
    }
  where
    whole : after ≡ take at out ++ ws ++ drop (at + length ws) out
    whole = f ∙ sets-eq ws out at room

    long : length (take at out ++ ws) ≡ r
    long = length-append (take at out) ws ∙ omega (arith, length-take-le at out (omega arith))

-- ---- Pieces

pub wrote_words_as : {xs ys a b : List ℕ} {at r : ℕ} → xs ≡ ys → WroteWords xs at a b r → WroteWords ys at a b r
wrote_words_as {a} {b} {at} {r} e w = subst (λ (ws : List ℕ). WroteWords ws at a b r) e w

pub wrote_words_then : {xs ys a b c : List ℕ} {at p r : ℕ} → WroteWords xs at a b p → WroteWords ys p b c r → WroteWords (xs ++ ys) at a c r
wrote_words_then {xs} {ys} {a} {b} {c} {at} {p} {r} v w =
    record {
      place = omega (arith, length-append xs ys);
      front = w.front ∙ ap (λ (l : List ℕ). l ++ ys) v.front ∙ append_assoc (take at a) xs ys;
      rest = w.rest ∙ rest_later a b p r (omega (arith, w.place)) v.rest;
      kept = w.kept ∙ v.kept;
    }

-- room for the whole is room for the piece, and for what follows behind it
pub room_first : {whole piece more : List ℕ} (at : ℕ) (out : List ℕ) → Parts whole piece more → Room whole at out → Room piece at out
room_first {whole} {piece} {more} at out e h = omega (arith, ap length e.joined, length-append piece more)

pub room_then : {whole piece more a b : List ℕ} {at p : ℕ} → Parts whole piece more → WroteWords piece at a b p → Room whole at a → Room more p b
room_then {whole} {piece} {more} {a} {b} {at} {p} e w h = omega (arith, ap length e.joined, length-append piece more)

-- ---- The whole, with what is left of it

-- of the words ws, to be written from `start` on, those before the place `at` are in, and `rest` is left; from `at` on the buffer is as before
pub record WordsLeft (ws : List ℕ) (start : ℕ) (first rest : List ℕ) (at : ℕ) (out : List ℕ) : Type 0 where
  pub whole : take at out ++ rest ≡ take start first ++ ws
  pub behind : drop at out ≡ drop at first
  pub place : at + length rest ≡ start + length ws
  pub room : start + length ws ≤ length first
  pub kept : length out ≡ length first

pub words_left_all : (ws rest : List ℕ) (start : ℕ) (first : List ℕ) → ws ≡ rest → Room ws start first → WordsLeft ws start first rest start first
words_left_all ws rest start first e h =
    subst (λ (r : List ℕ). WordsLeft ws start first r start first) e (record { whole = refl; behind = refl; place = refl; room = h; kept = refl })

pub words_left_room : {ws first rest piece more out : List ℕ} {start at : ℕ} → Parts rest piece more → WordsLeft ws start first rest at out → Room piece at out
words_left_room {ws} {first} {rest} {piece} {more} {out} {start} {at} e l = omega (arith, ap length e.joined, length-append piece more)

pub words_left_less : {ws first rest piece more out after : List ℕ} {start at r : ℕ} → Parts rest piece more → WordsLeft ws start first rest at out
    → WroteWords piece at out after r → WordsLeft ws start first more r after
words_left_less {ws} {first} {rest} {piece} {more} {out} {after} {start} {at} {r} e l w =
    record {
      whole = ap (λ (x : List ℕ). x ++ more) w.front ∙ append_assoc (take at out) piece more ∙ ap (λ (x : List ℕ). take at out ++ x) (sym e.joined) ∙ l.whole;
      behind = w.rest ∙ rest_later first out at r (omega (arith, w.place)) l.behind;
      place = omega (arith, ap length e.joined, length-append piece more);
      room = l.room;
      kept = w.kept ∙ l.kept;
    }

pub words_left_none : {ws first rest out : List ℕ} {start at : ℕ} → rest ≡ [] → WordsLeft ws start first rest at out → WroteWords ws start first out at
words_left_none {ws} {first} {rest} {out} {start} {at} e l =
    record {
      place = omega (arith, ap length e);
      front = sym (append-nil (take at out)) ∙ ap (λ (x : List ℕ). take at out ++ x) (sym e) ∙ l.whole;
      rest = l.behind;
      kept = l.kept;
    }
