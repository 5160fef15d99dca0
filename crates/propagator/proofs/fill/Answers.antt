-- `propagator::fill` meets its contract: the passes run on a copy of the values, and a conflict copies them again. Assumes nothing.
use lib.ListN.{length}
use Rattle.propagator.proofs.Checks.{passed_is}
use Rattle.propagator.proofs.Replies.{ready_copy}
use Rattle.propagator.proofs.fill.Goals as goal

pub copy-requires : goal.copy-requires
copy-requires c = (passed_is c.args.values.now c.args.words.now (length c.args.buffer.now) c.requires).1

pub settle_all-requires : goal.settle_all-requires
settle_all-requires c =
    let bs = c.args.values.now in
    let ws = c.args.words.now in
    ready_copy ws bs c.copy.new.to c.copy.ensures (passed_is bs ws (length c.args.buffer.now) c.requires).0
