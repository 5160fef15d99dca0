-- THE TURNS OF THE FINDER: what holds before record k, and what its two tests say of the reply, on a list of records and then by the fields
-- that were read. Assumes nothing.
use mathlib.Core.Path.{◌≡◌, refl, sym, ap, ◌∙◌}
use mathlib.Core.List.{List}
use mathlib.Core.Bool.{Bool, true, false, cond}
use Prim.Native.Nat.{ℕ, suc, ◌+◌, ◌≤◌, ◌<◌}
use native.Mathlib.Numerals.{add-one}
use native.Mathlib.Omega.{arith}
use lib.ListN.{length, get_or, take, drop, drop_of_length-le}
use lib.Seq.{drop-cons, take_all, length-take-le}
use Rattle.word.specs.Record.{Record, no_record}
use Rattle.std.specs.Prelude.{Result, Ok, Err}
use Rattle.word.specs.declared.NodeNumber.{NodeNumber}
use Rattle.finder.specs.declared.Fields.{Fields}
use Rattle.finder.specs.Find.{searched_fields, fields_hold, holds, fields_before, lies_before, bit_of, gap_in, find_from, find_in}
use Rattle.finder.proofs.Gap.{gap_next, gap_most}

module _ (xs : List Record) (wanted r : ℕ) where
  -- what is found from record k on
  abbrev from : ℕ → Result NodeNumber ℕ
  from k = find_from k (gap_in xs wanted r) (drop k xs) wanted r

  -- No record before record k is the one, and the gap counts those of them that lie before.
  pub record Past (k gap : ℕ) : Type 0 where
    pub reply : find_in xs wanted r ≡ from k
    pub counted : gap ≡ gap_in (take k xs) wanted r

  pub past_start : Past 0 0
  unfolding gap_in
  past_start = record { reply = refl; counted = refl }

  module _ (k gap : ℕ) (p : Past k gap) where
    pub past_within : k ≤ length xs → gap ≤ k
    past_within h = let long : length (take k xs) ≡ k = length-take-le k xs h in omega (arith, p.counted, gap_most (take k xs) wanted r)

    pub past_end_lem : length xs ≤ k → Err gap ≡ find_in xs wanted r
    unfolding find_from
    past_end_lem h =
        ap (λ (n : ℕ). Err n) (p.counted ∙ ap (λ (l : List Record). gap_in l wanted r) (take_all k xs h))
        ∙ sym (p.reply ∙ ap (λ (l : List Record). find_from k (gap_in xs wanted r) l wanted r) (drop_of_length-le xs h))

    module _ (x : Record) (inside : k < length xs) where
      abbrev turn : Bool → Result NodeNumber ℕ
      turn b = cond b (Ok (record { 0 = k })) (from (suc k))

      step : find_in xs wanted r ≡ turn (holds (get_or xs k x) wanted r)
      unfolding find_from
      step = p.reply ∙ ap (λ (l : List Record). find_from k (gap_in xs wanted r) l wanted r) (drop-cons xs k x inside)

      pub past_hit : holds (get_or xs k x) wanted r ≡ true → Ok (record { 0 = k }) ≡ find_in xs wanted r
      past_hit e = sym (step ∙ ap turn e)

      pub past_miss : holds (get_or xs k x) wanted r ≡ false → Past (k + 1) (gap + bit_of (lies_before (get_or xs k x) wanted r))
      past_miss e = rw add-one record { reply = step ∙ ap turn e; counted = omega (arith, p.counted, gap_next xs k x wanted r inside) }

-- The same turns by the fields that were read of record k.
module _ (xs : List Record) (wanted r k gap : ℕ) (p : Past xs wanted r k gap) (inside : k < length xs) (x : Fields) (is : x ≡ searched_fields (get_or xs k no_record))
    (b : Bool) (e : b ≡ fields_hold x.level x.lower x.upper wanted r) where
  test : holds (get_or xs k no_record) wanted r ≡ b
  test = ap (λ (y : Fields). fields_hold y.level y.lower y.upper wanted r) (sym is) ∙ sym e

  pub read_hit : b ≡ true → Ok (record { 0 = k }) ≡ find_in xs wanted r
  read_hit f = past_hit xs wanted r k gap p no_record inside (test ∙ f)

  pub read_miss : b ≡ false → (c : ℕ) → c ≡ bit_of (fields_before x.level x.upper wanted r) → Past xs wanted r (k + 1) (gap + c)
  read_miss f c q =
      rw (q, ap (λ (y : Fields). fields_before y.level y.upper wanted r) is) (past_miss xs wanted r k gap p no_record inside (test ∙ f))
