-- WHAT THE FINDER'S REPLY SAYS: a number is that of a record that holds the remainder, and no record before it does; "nothing" is the reply just where
-- no record does, with the gap. By induction on the records. Assumes nothing.
use mathlib.Core.Path.{◌≡◌, refl, sym, ◌∙◌}
use mathlib.Core.Logic.{◌↔◌}
use mathlib.Core.List.{List, [], ◌∷◌}
use mathlib.Core.Bool.{Bool, true, false, ◌&&◌, cond, true≢false}
use Prim.Native.Nat.{ℕ, zero, suc, ◌+◌, ◌≤◌, ◌<◌, zero-le, suc-le-suc}
use native.Mathlib.Nat.{not-suc-le-zero, le_of_suc-le-suc}
use native.Mathlib.Omega.{arith}
use lib.Dec.{eqb, leb}
use lib.ListN.{length, get_or}
use borrow.Author.Tests.{eqb-true, leb-true, eq-eqb, le-leb}
use Rattle.word.specs.Record.{Record, no_record, Among}
use Rattle.std.specs.Prelude.{Result, Ok, Err}
use Rattle.word.specs.declared.NodeNumber.{NodeNumber}
use Rattle.finder.specs.Find.{found_values, fields_hold, holds, gap_in, find_from, find_in, Missing}
use Rattle.word.proofs.Among.{at_among, among_at}

-- THE TEST of a record's fields is true just where the level is the wanted one and the label holds r.
pub fields_hold_lem : (level lower upper wanted r : ℕ)
    → (fields_hold level lower upper wanted r ≡ true) ↔ ((level ≡ wanted) × (lower ≤ r) × (r ≤ upper))
fields_hold_lem level lower upper wanted r = (
  go (eqb level wanted) (leb lower r) (leb r upper) (eqb-true level wanted) (leb-true lower r) (leb-true r upper),
  λ h. rw (eq-eqb level wanted h.0, le-leb lower r h.1, le-leb r upper h.2),
)
  where
    go : (a b c : Bool)
        → (a ≡ true → level ≡ wanted)
        → (b ≡ true → lower ≤ r)
        → (c ≡ true → r ≤ upper)
        → (a && (b && c)) ≡ true
        → (level ≡ wanted) × (lower ≤ r) × (r ≤ upper)
    go true true true p q s e = (p refl, q refl, s refl)
    go true true false p q s e = absurd (true≢false (sym e))
    go true false c p q s e = absurd (true≢false (sym e))
    go false b c p q s e = absurd (true≢false (sym e))

pub not_held : (x : Record) (wanted r : ℕ) → (x.level ≡ wanted → x.lower ≤ r → r ≤ x.upper → ⊥) → holds x wanted r ≡ false
not_held x wanted r never = go (holds x wanted r) refl
  where
    go : (b : Bool) → holds x wanted r ≡ b → b ≡ false
    go true e = let t = (fields_hold_lem x.level x.lower x.upper wanted r).0 e in absurd (never t.0 t.1 t.2)
    go false e = refl

-- No record before record i holds the remainder.
abbrev pub NoneBefore : List Record → ℕ → ℕ → ℕ → Type 0
NoneBefore xs i wanted r = (j : ℕ) → j < i → holds (get_or xs j no_record) wanted r ≡ false

pub find_none : (xs : List Record) (k gap wanted r : ℕ) → NoneBefore xs (length xs) wanted r → find_from k gap xs wanted r ≡ Err gap
unfolding find_from
find_none [] k gap wanted r h = refl
find_none (x ∷ xs) k gap wanted r h =
    rw (h 0 (suc-le-suc zero-le)) (find_none xs (suc k) gap wanted r (λ j l. h (suc j) (suc-le-suc l)))

pub find_first : (xs : List Record) (k gap i wanted r : ℕ) → i < length xs → NoneBefore xs i wanted r → holds (get_or xs i no_record) wanted r ≡ true
    → find_from k gap xs wanted r ≡ Ok (record { 0 = k + i })
unfolding find_from
find_first [] k gap i wanted r l h e = absurd (not-suc-le-zero l)
find_first (x ∷ xs) k gap zero wanted r l h e = let z : k + 0 ≡ k = omega arith in rw (e, z)
find_first (x ∷ xs) k gap (suc i) wanted r l h e =
    let z : k + suc i ≡ suc k + i = omega arith in
    rw (h 0 (suc-le-suc zero-le), z) (find_first xs (suc k) gap i wanted r (le_of_suc-le-suc l) (λ j m. h (suc j) (suc-le-suc m)) e)

-- One record in front that does not hold the remainder.
one_more : (x : Record) (xs : List Record) (i wanted r : ℕ) → holds x wanted r ≡ false → NoneBefore xs i wanted r → NoneBefore (x ∷ xs) (suc i) wanted r
one_more x xs i wanted r e h zero l = e
one_more x xs i wanted r e h (suc j) l = h j (le_of_suc-le-suc l)

-- The reply n, where the list's own first record has the number k, is record i of the list.
pub record FirstHolding (xs : List Record) (k wanted r n : ℕ) : Type 0 where
  pub i : ℕ
  pub number : n ≡ k + i
  pub within : i < length xs
  pub held : holds (get_or xs i no_record) wanted r ≡ true
  pub before : NoneBefore xs i wanted r

pub not_both : (n gap : ℕ) → ◌≡◌ {A = Result NodeNumber ℕ} (Ok (record { 0 = n })) (Err gap) → ⊥
not_both n gap e = let z : ◌≡◌ {A = ℕ} 0 1 = cc in omega arith

-- THE VALUES TELL THE REPLY: no two replies have the same.
pub found_values_tell : (f g : Result NodeNumber ℕ) → found_values f ≡ found_values g → f ≡ g
found_values_tell (Ok j) (Ok k) e = λ i. Ok (record { 0 = (e i).number })
found_values_tell (Ok k) (Err gap) e = let z : ◌≡◌ {A = ℕ} 1 0 = λ i. (e i).found in absurd (omega arith)
found_values_tell (Err gap) (Ok k) e = let z : ◌≡◌ {A = ℕ} 0 1 = λ i. (e i).found in absurd (omega arith)
found_values_tell (Err gap) (Err wide) e = λ i. Err (e i).number

pub found_says : (xs : List Record) (k gap wanted r n : ℕ) → find_from k gap xs wanted r ≡ Ok (record { 0 = n }) → FirstHolding xs k wanted r n
unfolding find_from
found_says [] k gap wanted r n e = absurd (not_both n gap (sym e))
found_says (x ∷ xs) k gap wanted r n e = go (holds x wanted r) refl (λ q. found_says xs (suc k) gap wanted r n q) e
  where
    go : (b : Bool) → holds x wanted r ≡ b → (find_from (suc k) gap xs wanted r ≡ Ok (record { 0 = n }) → FirstHolding xs (suc k) wanted r n)
        → cond b (Ok (record { 0 = k })) (find_from (suc k) gap xs wanted r) ≡ Ok (record { 0 = n }) → FirstHolding (x ∷ xs) k wanted r n
    go true h again q =
        let same : k ≡ n = λ i. (found_values (q i)).number in
        record { i = 0; number = omega arith; within = suc-le-suc zero-le; held = h; before = λ j l. absurd (not-suc-le-zero l) }
    go false h again q =
        let f = again q in
        record {
          i = suc f.i;
          number = omega (arith, f.number);
          within = suc-le-suc f.within;
          held = f.held;
          before = one_more x xs f.i wanted r h f.before;
        }

pub nothing_says : (xs : List Record) (k gap wanted r g : ℕ) → find_from k gap xs wanted r ≡ Err g → (g ≡ gap) × NoneBefore xs (length xs) wanted r
unfolding find_from
nothing_says [] k gap wanted r g e = ((cc), λ j l. absurd (not-suc-le-zero l))
nothing_says (x ∷ xs) k gap wanted r g e = go (holds x wanted r) refl (λ q. nothing_says xs (suc k) gap wanted r g q) e
  where
    go : (b : Bool) → holds x wanted r ≡ b → (find_from (suc k) gap xs wanted r ≡ Err g → (g ≡ gap) × NoneBefore xs (length xs) wanted r)
        → cond b (Ok (record { 0 = k })) (find_from (suc k) gap xs wanted r) ≡ Err g → (g ≡ gap) × NoneBefore (x ∷ xs) (suc (length xs)) wanted r
    go true h again q = absurd (not_both k g q)
    go false h again q = let f = again q in (f.0, one_more x xs (length xs) wanted r h f.1)

-- THE REPLY At k: record k is of the level and holds r.
pub find_says : (xs : List Record) (wanted r k : ℕ) → find_in xs wanted r ≡ Ok (record { 0 = k })
    → (k < length xs) × ((get_or xs k no_record).level ≡ wanted) × ((get_or xs k no_record).lower ≤ r) × (r ≤ (get_or xs k no_record).upper)
find_says xs wanted r k e =
    let f = found_says xs 0 (gap_in xs wanted r) wanted r k e in
    let same : f.i ≡ k = omega (arith, f.number) in
    let x : Record = get_or xs k no_record in
    let h : holds x wanted r ≡ true = rw same at f.held in
    let t = (fields_hold_lem x.level x.lower x.upper wanted r).0 h in
    (rw same at f.within, t.0, t.1, t.2)

-- THE REPLY Nothing: it carries the gap, and no record is of the level and holds r.
pub nothing_gap : (xs : List Record) (wanted r g : ℕ) → find_in xs wanted r ≡ Err g → g ≡ gap_in xs wanted r
nothing_gap xs wanted r g e = (nothing_says xs 0 (gap_in xs wanted r) wanted r g e).0

pub nothing_missing : (xs : List Record) (wanted r g : ℕ) → find_in xs wanted r ≡ Err g → Missing xs wanted r
nothing_missing xs wanted r g e x m l a b =
    let s = at_among x xs m in
    let out : holds x wanted r ≡ false = rw s.here at ((nothing_says xs 0 (gap_in xs wanted r) wanted r g e).1 s.k s.within) in
    true≢false (sym ((fields_hold_lem x.level x.lower x.upper wanted r).1 (l, a, b)) ∙ out)

-- And where no record is and does, that is the reply.
pub missing_nothing : (xs : List Record) (wanted r : ℕ) → Missing xs wanted r → find_in xs wanted r ≡ Err (gap_in xs wanted r)
missing_nothing xs wanted r none = find_none xs 0 (gap_in xs wanted r) wanted r (λ j l. go (get_or xs j no_record) (among_at xs j l))
  where
    go : (x : Record) → Among x xs → holds x wanted r ≡ false
    go x m = not_held x wanted r (none x m)
