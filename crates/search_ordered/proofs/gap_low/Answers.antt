-- `search_ordered::gap_low` meets its contract. The loop's invariant: the gap is at least p and at most `left` more; each turn leaves at most half of
-- them. Assumes nothing.
use native.Mathlib.Omega.{arith}
use Prim.Native.Nat.{ℕ, ◌+◌, ◌-◌, ◌/◌}
use mathlib.Core.Path.{◌≡◌, refl, sym, subst}
use borrow.Author.Rules.{rules}
use Rattle.word.specs.Record.{labelled}
use Rattle.word.proofs.Labels.{labelled_length}
use Rattle.search_ordered.proofs.Order.{proper_at}
use Rattle.search_ordered.proofs.Search.{Bracket, bracket_start, bracket_half, bracket_met, bit_times}
use Rattle.search_ordered.proofs.gap_low.Goals as goal

pub loop-left-init : goal.loop-left-init
loop-left-init c =
    let rs = c.args.ordered.records in
    let z : 0 + rs.count ≡ rs.count = omega arith in
    let xs = labelled rs.table.now rs.count in
    (subst (Bracket xs c.args.level c.args.r.0 0) (sym z) (bracket_start xs c.args.level c.args.r.0 rs.count (sym (labelled_length _ _ rs.fit))), omega arith)

pub less_bit-requires : goal.less_bit-requires
less_bit-requires c =
    let l = c.loop-left in
    let rs = c.args.ordered.records in
    let long = labelled_length rs.table.now rs.count rs.fit in
    let m : ℕ = l.p + (l.left - l.left / 2) - 1 in
    let low = c.requires.0 m (omega arith) in
    let up = (proper_at _ c.args.ordered.sorted m (omega arith)).1 in
    rw (c.upper_key.ensures, c.key_of.ensures) (omega (arith, low, up), omega (arith, c.requires.1))

pub overflow_mul-p : goal.overflow_mul-p
overflow_mul-p c =
    let l = c.loop-left in
    let half : ℕ = l.left - l.left / 2 in
    let most = bit_times half _ c.upper_key.result c.key_of.result c.less_bit.ensures in
    omega arith

pub overflow_add-p : goal.overflow_add-p
overflow_add-p c =
    let l = c.loop-left in
    let half : ℕ = l.left - l.left / 2 in
    let most = bit_times half _ c.upper_key.result c.key_of.result c.less_bit.ensures in
    omega arith

pub loop-left-preserved : goal.loop-left-preserved
loop-left-preserved c =
    let l = c.loop-left in
    let half : ℕ = l.left - l.left / 2 in
    let most = bit_times half _ c.upper_key.result c.key_of.result c.less_bit.ensures in
    let bit = rw (c.upper_key.ensures, c.key_of.ensures) at c.less_bit.ensures in
    (bracket_half _ c.args.ordered.sorted _ _ l.p l.left half _ (omega arith) refl l.invariant.0 bit, omega arith)

pub returns : goal.returns
returns c = let l = c.loop-left in bracket_met _ c.args.ordered.sorted _ _ (search rules) _ _ l.invariant.0 (omega arith)
