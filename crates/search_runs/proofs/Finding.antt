-- THE FINDER ON TWO RUNS: its reply on one list behind another is that on the first, else that on the second with its number and its gap moved up. By
-- induction on the records. Assumes nothing.
use mathlib.Core.Path.{◌≡◌, refl, sym, ap, ◌∙◌}
use mathlib.Core.List.{List, [], ◌∷◌, ◌++◌}
use mathlib.Core.Bool.{Bool, true, false, cond}
use Prim.Native.Nat.{ℕ, suc, ◌+◌, ◌≤◌}
use native.Mathlib.Omega.{arith}
use lib.ListN.{length}
use Rattle.word.specs.Record.{Record, labelled, RecordsFit}
use Rattle.std.specs.Prelude.{Result, Ok, Err}
use Rattle.word.specs.declared.NodeNumber.{NodeNumber}
use Rattle.finder.specs.Find.{holds, gap_in, find_from, find_in}
use Rattle.word.proofs.Labels.{labelled_length}
use Rattle.finder.proofs.Gap.{gap_append}
use Rattle.search_runs.specs.Runs.{second_run}
use Rattle.search_runs.proofs.Views.{both_runs_lem}

-- The reply with its number moved up by m, its gap by a.
abbrev moved_up : ℕ → ℕ → Result NodeNumber ℕ → Result NodeNumber ℕ
moved_up m a (Ok n) = Ok (record { 0 = m + n.0 })
moved_up m a (Err gap) = Err (a + gap)

find_moved : (ys : List Record) (m a k gap wanted r : ℕ) → find_from (m + k) (a + gap) ys wanted r ≡ moved_up m a (find_from k gap ys wanted r)
unfolding find_from
find_moved [] m a k gap wanted r = refl
find_moved (y ∷ ys) m a k gap wanted r = go (holds y wanted r) (find_moved ys m a (suc k) gap wanted r)
  where
    go : (b : Bool) → find_from (m + suc k) (a + gap) ys wanted r ≡ moved_up m a (find_from (suc k) gap ys wanted r)
        → cond b (Ok (record { 0 = m + k })) (find_from (suc (m + k)) (a + gap) ys wanted r) ≡ moved_up m a (cond b (Ok (record { 0 = k })) (find_from (suc k) gap ys wanted r))
    go true h = refl
    go false h = let z : m + suc k ≡ suc (m + k) = omega arith in rw z at h

-- The reply from that on m records and that on those behind them.
abbrev joined : ℕ → Result NodeNumber ℕ → Result NodeNumber ℕ → Result NodeNumber ℕ
joined m (Ok k) g = Ok k
joined m (Err a) g = moved_up m a g

find_joined : (xs ys : List Record) (k a b wanted r : ℕ) → find_from k (a + b) (xs ++ ys) wanted r ≡ joined (k + length xs) (find_from k a xs wanted r) (find_from 0 b ys wanted r)
unfolding find_from
find_joined [] ys k a b wanted r = let z : k ≡ k + 0 + 0 = omega arith in ap (λ (n : ℕ). find_from n (a + b) ys wanted r) z ∙ find_moved ys (k + 0) a 0 b wanted r
find_joined (x ∷ xs) ys k a b wanted r = go (holds x wanted r) (find_joined xs ys (suc k) a b wanted r)
  where
    go : (q : Bool) → find_from (suc k) (a + b) (xs ++ ys) wanted r ≡ joined (suc k + length xs) (find_from (suc k) a xs wanted r) (find_from 0 b ys wanted r)
        → cond q (Ok (record { 0 = k })) (find_from (suc k) (a + b) (xs ++ ys) wanted r)
        ≡ joined (k + suc (length xs)) (cond q (Ok (record { 0 = k })) (find_from (suc k) a xs wanted r)) (find_from 0 b ys wanted r)
    go true h = refl
    go false h = let z : suc k + length xs ≡ k + suc (length xs) = omega arith in rw z at h

-- THE REPLY from those on the two runs.
pub find_runs : (t : List ℕ) (m count : ℕ) → m ≤ count → RecordsFit count t → (wanted r : ℕ) (f g : Result NodeNumber ℕ) → f ≡ find_in (labelled t m) wanted r → g ≡ find_in (second_run t m count) wanted r
    → joined m f g ≡ find_in (labelled t count) wanted r
find_runs t m count mid room wanted r f g e h =
    let xs : List Record = labelled t m in
    let ys : List Record = second_run t m count in
    let n : 0 + length xs ≡ m = omega (arith, labelled_length t m (omega arith)) in
    rw (e, h) (sym (
    ap (λ (l : List Record). find_in l wanted r) (both_runs_lem t m count mid)
    ∙ ap (λ (gap : ℕ). find_from 0 gap (xs ++ ys) wanted r) (gap_append xs ys wanted r)
    ∙ find_joined xs ys 0 (gap_in xs wanted r) (gap_in ys wanted r) wanted r
    ∙ ap (λ (k : ℕ). joined k (find_in xs wanted r) (find_in ys wanted r)) n
    ))
