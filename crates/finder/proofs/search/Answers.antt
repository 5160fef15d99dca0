-- `finder::search` meets its contract: the turn of each record, on any records that the calls read. Assumes nothing.
use Rattle.std.proofs.Common.{◌<◌, length, arith}
use Rattle.finder.specs.Find.{fields_before}
use Rattle.finder.proofs.Gap.{bit_most}
use Rattle.finder.proofs.Laws.{past_start, past_end_lem, read_hit, read_miss}
use Rattle.finder.proofs.search.Goals as goal

pub loop-k-init : goal.loop-k-init
loop-k-init g c = (omega arith, λ xs long reads. past_start xs _ _)

pub returns-then-holds : goal.returns-then-holds
returns-then-holds g c =
    λ xs long reads.
    let inside : c.loop-k.k < length xs = omega (arith, long) in
    read_hit xs _ _ _ _ (c.loop-k.invariant.1 xs long reads) inside _ (reads _ inside _ c.read-x.ensures) _ c.holds.ensures c.if-holds.true

pub loop-k-preserved : goal.loop-k-preserved
loop-k-preserved g c = (
  omega (arith, c.lies_before-gap.ensures, bit_most (fields_before c.read-x.result.level c.read-x.result.upper c.args.level c.args.r.0)),
  λ xs long reads.
      let inside : c.loop-k.k < length xs = omega (arith, long) in
      read_miss xs _ _ _ _ (c.loop-k.invariant.1 xs long reads) inside _ (reads _ inside _ c.read-x.ensures) _ c.holds.ensures c.if-holds.false _ c.lies_before-gap.ensures,
)

pub returns : goal.returns
returns g c = λ xs long reads. past_end_lem xs _ _ _ _ (c.loop-k.invariant.1 xs long reads) (omega (arith, long))
