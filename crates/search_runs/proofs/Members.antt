-- MEMBERS AND ORDER at the end of a list of records: what a list and one record more has, and when it is in order. Assumes nothing.
use mathlib.Core.Path.{◌≡◌, refl, sym, subst}
use mathlib.Core.Logic.{◌⊎◌, inl, inr, ⊎_elim}
use mathlib.Core.List.{List, [], ◌∷◌, ◌++◌}
use Prim.Native.Nat.{ℕ, suc, ◌<◌}
use lib.ListN.{length, get_or, take}
use lib.Seq.{take-suc}
use Rattle.word.specs.Record.{Record, no_record, Among}
use Rattle.search_ordered.specs.Order.{Before, Proper, All, Sorted}
use Rattle.search_ordered.proofs.Order.{all_at, all_of, proper_at}
use Rattle.word.proofs.Among.{among_at, at_among}

-- ---- Members

pub among_left : (xs ys : List Record) (z : Record) → Among z xs → Among z (xs ++ ys)
among_left [] ys z m = absurd m
among_left (x ∷ xs) ys z (inl e) = inl e
among_left (x ∷ xs) ys z (inr m) = inr (among_left xs ys z m)

pub among_right : (xs ys : List Record) (z : Record) → Among z ys → Among z (xs ++ ys)
among_right [] ys z m = m
among_right (x ∷ xs) ys z m = inr (among_right xs ys z m)

pub among_cases : (xs ys : List Record) (z : Record) → Among z (xs ++ ys) → Among z xs ⊎ Among z ys
among_cases [] ys z m = inr m
among_cases (x ∷ xs) ys z (inl e) = inl (inl e)
among_cases (x ∷ xs) ys z (inr m) = ⊎_elim (λ a. inl (inr a)) inr (among_cases xs ys z m)

-- One record more.
pub snoc_from : (xs : List Record) (x z : Record) → Among z (xs ++ (x ∷ [])) → Among z xs ⊎ (z ≡ x)
snoc_from xs x z m = ⊎_elim inl (⊎_elim inr (λ e. absurd e)) (among_cases xs (x ∷ []) z m)

pub snoc_to : (xs : List Record) (x z : Record) → Among z xs ⊎ (z ≡ x) → Among z (xs ++ (x ∷ []))
snoc_to xs x z m = ⊎_elim (among_left xs (x ∷ []) z) (λ e. among_right xs (x ∷ []) z (inl e)) m

-- The first i records and record i.
module _ (xs : List Record) (i : ℕ) (h : i < length xs) (z : Record) where
  pub last_from : Among z (take (suc i) xs) → Among z (take i xs) ⊎ (z ≡ get_or xs i no_record)
  last_from m = snoc_from (take i xs) (get_or xs i no_record) z (subst (Among z) (take-suc xs i no_record h) m)

  pub last_to : Among z (take i xs) ⊎ (z ≡ get_or xs i no_record) → Among z (take (suc i) xs)
  last_to m = subst (Among z) (sym (take-suc xs i no_record h)) (snoc_to (take i xs) (get_or xs i no_record) z m)

-- ---- Order

pub proper_in : (xs : List Record) → Sorted xs → (z : Record) → Among z xs → Proper z
proper_in xs s z m = let a = at_among z xs m in subst Proper a.here (proper_at xs s a.k a.within)

pub all_in : (P : Record → Type 0) (xs : List Record) → All P xs → (z : Record) → Among z xs → P z
all_in P xs a z m = let s = at_among z xs m in subst P s.here (all_at P xs a s.k s.within)

in_all : (P : Record → Type 0) (xs : List Record) → ((z : Record) → Among z xs → P z) → All P xs
in_all P xs f = all_of P xs (λ k h. f (get_or xs k no_record) (among_at xs k h))

-- Records in order and one that all come before are in order; and nothing else with it at the end is.
pub sorted_snoc : (zs : List Record) (x : Record) → Sorted zs → Proper x → ((z : Record) → Among z zs → Before z x) → Sorted (zs ++ (x ∷ []))
unfolding Sorted
sorted_snoc [] x s p f = (p, in_all (Before x) [] (λ z m. absurd m), tt)
sorted_snoc (z ∷ zs) x s p f = (
  s.0,
  in_all (Before z) (zs ++ (x ∷ [])) (λ w m. ⊎_elim (all_in (Before z) zs s.1 w) (λ e. subst (Before z) (sym e) (f z (inl refl))) (snoc_from zs x w m)),
  sorted_snoc zs x s.2 p (λ w m. f w (inr m)),
)

pub sorted_unsnoc : (zs : List Record) (x : Record) → Sorted (zs ++ (x ∷ [])) → Sorted zs × Proper x × ((z : Record) → Among z zs → Before z x)
unfolding Sorted
sorted_unsnoc [] x s = (tt, s.0, λ z m. absurd m)
sorted_unsnoc (y ∷ zs) x s =
    let r = sorted_unsnoc zs x s.2 in
    let after : (w : Record) → Among w (zs ++ (x ∷ [])) → Before y w = all_in (Before y) (zs ++ (x ∷ [])) s.1 in (
      (s.0, in_all (Before y) zs (λ w m. after w (snoc_to zs x w (inl m))), r.0),
      r.1,
      λ z m. ⊎_elim (λ e. subst (λ (w : Record). Before w x) (sym e) (after x (snoc_to zs x x (inr refl)))) (r.2 z) m,
    )
