-- `propagator::settle_all` meets its contract: what the front settles first makes no difference to what is reached. Assumes nothing.
use mathlib.Core.Path.{◌∙◌}
use Rattle.std.proofs.lemmas.Result.{err_from_is_err_and}
use Rattle.propagator.proofs.Fronts.{front_ready, front_long, front_conflict, front_ready_on, front_first}
use Rattle.propagator.proofs.settle_all.Goals as goal

pub slice_bounds-settle-end : goal.slice_bounds-settle-end
slice_bounds-settle-end c = front_long c.args.words.now c.args.bytes.now c.requires c.head-k.result c.head-k.ensures

pub settle-requires : goal.settle-requires
settle-requires c = front_ready c.args.words.now c.args.bytes.now c.requires c.head-k.result c.head-k.ensures

pub returns-in_err-settle : goal.returns-in_err-settle
returns-in_err-settle c =
    let p = err_from_is_err_and c.from_residual.result c.from_residual.ensures.1 in
    rw p.1 (front_conflict c.args.words.now c.args.bytes.now c.requires c.head-k.result c.head-k.ensures c.in_err-settle.ensures)

pub settle-requires-2 : goal.settle-requires-2
settle-requires-2 c =
    front_ready_on c.args.words.now c.args.bytes.now c.requires c.head-k.result c.head-k.ensures c.settle.new.bytes c.in_ok-settle.ensures

pub returns : goal.returns
returns c =
    c.settle-2.ensures
    ∙ front_first c.args.words.now c.args.bytes.now c.requires c.head-k.result c.head-k.ensures c.settle.new.bytes c.in_ok-settle.ensures
