-- THE SEARCH among records in order, by halves or at a guess: the turns that bring the two ends together, that the gap is the place, and what it says of the
-- finder's reply. As upper ends are in order, one comparison decides a half, and all before a record; a record of the level that holds the remainder is the
-- only one. Assumes nothing.
use mathlib.Core.Path.{◌≡◌, refl, sym, ap, ◌∙◌, subst, subst₂}
use mathlib.Core.Logic.{◌⊎◌, inl, inr, ⊎_elim}
use mathlib.Core.List.{List}
use mathlib.Core.Bool.{Bool, true, false}
use Prim.Native.Nat.{ℕ, zero, suc, ◌+◌, ◌-◌, ◌*◌, ◌/◌, ◌≤◌, ◌<◌, zero-le}
use native.Mathlib.Nat.{not-suc-le-zero, eq-or-lt_of_le, mul-le-mul_left}
use native.Mathlib.Numerals.{add-one}
use native.Mathlib.Omega.{arith}
use lib.ListN.{length, get_or}
use lib.Dec.{leb, ltb}
use borrow.Author.Tests.{ne_eqb, leb-true, ltb-true, ltb-false, lt-ltb, le-ltb}
use Rattle.word.specs.Record.{Record, no_record}
use Rattle.word.proofs.Tests.{both_true}
use Rattle.std.specs.Prelude.{Ok, Err}
use Rattle.finder.specs.Find.{holds, lies_before, bit_of, gap_in, find_in, key}
use Rattle.search_ordered.specs.Order.{Before, Sorted, upper_key, last_below, low_levels, Low, hits}
use Rattle.search_ordered.proofs.Order.{sorted_at, proper_at}
use Rattle.word.proofs.Among.{Standing}
use Rattle.finder.proofs.Gap.{bit_most, gap_split, before_key}
use Rattle.finder.proofs.Says.{fields_hold_lem, not_held, NoneBefore, find_none, find_first}

-- The place of x at the level is not before lo and not after hi.
pub record Bracket (xs : List Record) (level x lo hi : ℕ) : Type 0 where
  pub ends : lo ≤ hi
  pub within : hi ≤ length xs
  pub before : (k : ℕ) → k < lo → upper_key xs k < key level x
  pub after : (k : ℕ) → hi ≤ k → k < length xs → key level x ≤ upper_key xs k

uppers : (xs : List Record) → Sorted xs → (p q : ℕ) → p ≤ q → q < length xs → upper_key xs p ≤ upper_key xs q
uppers xs s p q l h = ⊎_elim
    (λ e. subst (λ (n : ℕ). upper_key xs p ≤ upper_key xs n) e (omega arith))
    (λ m. let a = sorted_at xs s p q m h in let b = proper_at xs s q h in omega arith)
    (eq-or-lt_of_le l)

pub bracket_start : (xs : List Record) (level x n : ℕ) → n ≡ length xs → Bracket xs level x 0 n
bracket_start xs level x n e = record {
  ends = zero-le;
  within = omega arith;
  before = λ k l. absurd (not-suc-le-zero l);
  after = λ k l m. absurd (let z : k < k = omega arith in omega arith);
}

module _ (xs : List Record) (s : Sorted xs) (level x lo hi m : ℕ) (b : Bracket xs level x lo hi) (lm : lo ≤ m) (mh : m < hi) where
  pub bracket_up : ltb (upper_key xs m) (key level x) ≡ true → Bracket xs level x (m + 1) hi
  bracket_up e = record {
    ends = omega arith;
    within = b.within;
    before = λ k l.
        let c : upper_key xs m < key level x = ltb-true _ _ e in
        let h = uppers xs s k m (omega arith) (omega (arith, b.within)) in
        omega arith;
    after = b.after;
  }

  pub bracket_down : ltb (upper_key xs m) (key level x) ≡ false → Bracket xs level x lo m
  bracket_down e = record {
    ends = lm;
    within = omega (arith, b.within);
    before = b.before;
    after = λ k l i.
        let c : key level x ≤ upper_key xs m = ltb-false _ _ e in
        let h = uppers xs s m k l i in
        omega arith;
  }

-- A bracket may be made wider at its end.
bracket_wider : (xs : List Record) (level x lo hi top : ℕ) → Bracket xs level x lo hi → hi ≤ top → top ≤ length xs → Bracket xs level x lo top
bracket_wider xs level x lo hi top b h w = record { ends = omega (arith, b.ends); within = w; before = b.before; after = λ k l i. b.after k (omega arith) i }

-- A difference tells which of two numbers is less: it reaches half of what 64 bits hold.
pub bit_law : (a b : ℕ) → a < 9223372036854775808 → b < 9223372036854775808 → (b + 9223372036854775807 - a) / 9223372036854775808 ≡ bit_of (ltb a b)
bit_law a b h k = go (ltb a b) refl
  where
    go : (q : Bool) → ltb a b ≡ q → (b + 9223372036854775807 - a) / 9223372036854775808 ≡ bit_of q
    go true e = let l = ltb-true a b e in omega arith
    go false e = let l = ltb-false a b e in omega arith

pub bit_times : (h b x y : ℕ) → b ≡ bit_of (ltb x y) → h * b ≤ h
bit_times h b x y e = rw e (omega (arith, mul-le-mul_left h (bit_most (ltb x y))))

-- A turn without a branch: half of what is left, rounded up, lies before the place, or at most the other half does.
pub bracket_half : (xs : List Record) → Sorted xs → (level x p left half b : ℕ) → 0 < left → half ≡ left - left / 2 → Bracket xs level x p (p + left)
    → b ≡ bit_of (ltb (upper_key xs (p + half - 1)) (key level x)) → Bracket xs level x (p + half * b) (p + half * b + (left - half))
bracket_half xs s level x p left half b some is B e = go (ltb (upper_key xs (p + half - 1)) (key level x)) refl e
  where
    go : (q : Bool) → ltb (upper_key xs (p + half - 1)) (key level x) ≡ q → b ≡ bit_of (ltb (upper_key xs (p + half - 1)) (key level x)) → Bracket xs level x (p + half * b) (p + half * b + (left - half))
    go true t f =
        let one : b ≡ 1 = f ∙ ap bit_of t in
        let lo : p + half - 1 + 1 ≡ p + half * b = rw one (omega arith) in
        let hi : p + left ≡ p + half * b + (left - half) = rw one (omega arith) in
        subst₂ (Bracket xs level x) lo hi (bracket_up xs s level x p (p + left) (p + half - 1) B (omega arith) (omega arith) t)
    go false t f =
        let none : b ≡ 0 = f ∙ ap bit_of t in
        let lo : p ≡ p + half * b = rw none (omega arith) in
        let hi : p + (left - half) ≡ p + half * b + (left - half) = rw none (omega arith) in
        subst₂ (Bracket xs level x) lo hi
        (bracket_wider xs level x p (p + half - 1) (p + (left - half)) (bracket_down xs s level x p (p + left) (p + half - 1) B (omega arith) (omega arith) t) (omega arith) (omega (arith, B.within)))

-- The last of records in order has the highest level.
pub low_last : (xs : List Record) → Sorted xs → (n : ℕ) → length xs ≡ suc n → (get_or xs n no_record).level < low_levels → Low xs
low_last xs s n e h k l = let a = uppers xs s k n (omega arith) (omega arith) in let b = proper_at xs s n (omega arith) in let c = proper_at xs s k l in omega (arith, b.1, c.1)

-- Where the last of n records lies before x, so do all of them: the place is not before n.
pub bracket_from : (xs : List Record) → Sorted xs → (level x n count : ℕ) → count ≡ length xs → last_below xs level x n ≡ true → Bracket xs level x n count
bracket_from xs s level x zero count e h = bracket_start xs level x count e
bracket_from xs s level x (suc m) count e h =
    let less : suc m - 1 ≡ m = omega arith in
    let both = both_true (leb (suc m) (length xs)) (ltb (upper_key xs m) (key level x)) (rw (less, ne_eqb (suc m) 0 (λ z. absurd (omega arith))) at h) in
    let inside : suc m ≤ length xs = leb-true (suc m) (length xs) both.0 in
    rw (add-one m) at (bracket_up xs s level x 0 count m (bracket_start xs level x count e) zero-le (omega arith) both.1)

-- The first p records lie wholly before x at the level, and no other does.
abbrev pub Placed : List Record → ℕ → ℕ → ℕ → Type 0
Placed xs level x p = Bracket xs level x p p

-- Where the ends have met, the place is there.
bracket_placed : (xs : List Record) (level x lo hi : ℕ) → Bracket xs level x lo hi → hi ≤ lo → Placed xs level x lo
bracket_placed xs level x lo hi b h = let e : hi ≡ lo = omega (arith, b.ends) in rw e at b

-- Among records in order every remainder has a place.
place_in : (xs : List Record) → Sorted xs → (level x : ℕ) → (p : ℕ) × Placed xs level x p
place_in xs s level x = down (length xs) (bracket_start xs level x (length xs) refl)
  where
    down : (hi : ℕ) → Bracket xs level x 0 hi → (p : ℕ) × Placed xs level x p
    down zero b = (0, bracket_placed xs level x 0 0 b (omega arith))
    down (suc m) b = go (ltb (upper_key xs m) (key level x)) refl (λ c. down m c)
      where
        go : (q : Bool) → ltb (upper_key xs m) (key level x) ≡ q → (Bracket xs level x 0 m → (p : ℕ) × Placed xs level x p) → (p : ℕ) × Placed xs level x p
        go true e f = (m + 1, bracket_placed xs level x (m + 1) (suc m) (bracket_up xs s level x 0 (suc m) m b zero-le (omega arith) e) (omega arith))
        go false e f = f (bracket_down xs s level x 0 (suc m) m b zero-le (omega arith) e)

module _ (xs : List Record) (s : Sorted xs) (level x : ℕ) (small : x < 4294967296) where
  placed_gap : (p : ℕ) → Placed xs level x p → p ≡ gap_in xs level x
  placed_gap p pl =
      sym (gap_split xs p level x pl.within
      (λ k l. let w = pl.within in by_key k (omega arith) ∙ lt-ltb _ _ (pl.before k l))
      (λ k l m. by_key k m ∙ le-ltb _ _ (pl.after k l m)))
    where
      by_key : (k : ℕ) → k < length xs → lies_before (get_or xs k no_record) level x ≡ ltb (upper_key xs k) (key level x)
      by_key k h = before_key _ _ level x (proper_at xs s k h).1 small

  -- THE GAP IS THE PLACE.
  pub gap_placed : Placed xs level x (gap_in xs level x)
  gap_placed = let q = place_in xs s level x in subst (Placed xs level x) (placed_gap q.0 q.1) q.1

  pub bracket_met : (lo hi : ℕ) → Bracket xs level x lo hi → hi ≤ lo → lo ≡ gap_in xs level x
  bracket_met lo hi b h = placed_gap lo (bracket_placed xs level x lo hi b h)

-- THE FINDER AMONG RECORDS IN ORDER: a record of the level that holds r is the one it finds.
pub find_there : (xs : List Record) → Sorted xs → (wanted r : ℕ) (x : Record) (at : Standing x xs) → x.level ≡ wanted → x.lower ≤ r → r ≤ x.upper
    → find_in xs wanted r ≡ Ok (record { 0 = at.k })
find_there xs s wanted r x at l a b =
    let z : 0 + at.k ≡ at.k = omega arith in
    let held : holds x wanted r ≡ true = (fields_hold_lem x.level x.lower x.upper wanted r).1 (l, a, b) in
    rw z at (find_first xs 0 (gap_in xs wanted r) at.k wanted r at.within none (rw at.here held))
  where
    none : NoneBefore xs at.k wanted r
    none j m = not_held (get_or xs j no_record) wanted r
        (λ e f g. let o : Before (get_or xs j no_record) x = rw at.here at (sorted_at xs s j at.k m at.within) in omega arith)

-- A record that holds the remainder is the finder's reply.
record_hit : (xs : List Record) → Sorted xs → (wanted r p : ℕ) → p < length xs → holds (get_or xs p no_record) wanted r ≡ true → Ok (record { 0 = p }) ≡ find_in xs wanted r
record_hit xs s wanted r p h e =
    let x : Record = get_or xs p no_record in
    let t = (fields_hold_lem x.level x.lower x.upper wanted r).0 e in
    sym (find_there xs s wanted r x (record { k = p; within = h; here = refl }) t.0 t.1 t.2)

-- Where the record at the gap does not hold it, none does.
pub gap_miss : (xs : List Record) → Sorted xs → (wanted r p : ℕ) → r < 4294967296 → p ≡ gap_in xs wanted r
    → (p < length xs → holds (get_or xs p no_record) wanted r ≡ false) → Err p ≡ find_in xs wanted r
gap_miss xs s wanted r p small is e = rw is (sym (find_none xs 0 (gap_in xs wanted r) wanted r none))
  where
    pl : Placed xs wanted r p
    pl = rw is (gap_placed xs s wanted r small)

    after : (i : ℕ) → i < length xs → (p ≡ i) ⊎ (p < i) → holds (get_or xs i no_record) wanted r ≡ false
    after i l (inl q) = rw q at e l
    after i l (inr m) = not_held (get_or xs i no_record) wanted r
        (λ q a b. let h = pl.after p (omega arith) (omega arith) in let o = sorted_at xs s p i m l in omega arith)

    decide : (i : ℕ) → i < length xs → (b : Bool) → ltb i p ≡ b → holds (get_or xs i no_record) wanted r ≡ false
    decide i l true t = not_held (get_or xs i no_record) wanted r (λ q a b. let h = pl.before i (ltb-true i p t) in omega arith)
    decide i l false t = after i l (eq-or-lt_of_le (ltb-false i p t))

    none : NoneBefore xs (length xs) wanted r
    none i l = decide i l (ltb i p) refl

-- What the test of one record says of the finder's reply.
pub hits_reply : (xs : List Record) → Sorted xs → (level r p : ℕ) → hits xs level r p ≡ true → Ok (record { 0 = p }) ≡ find_in xs level r
hits_reply xs s level r p e = let b = both_true (ltb p (length xs)) (holds (get_or xs p no_record) level r) e in record_hit xs s level r p (ltb-true p (length xs) b.0) b.1

pub hits_not : (xs : List Record) (level r p : ℕ) → hits xs level r p ≡ false → p < length xs → holds (get_or xs p no_record) level r ≡ false
hits_not xs level r p e h = rw (lt-ltb p (length xs) h) at e
