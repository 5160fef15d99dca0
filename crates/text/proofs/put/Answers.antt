-- `text::put` meets its contract: a store where there is room, and nothing where there is none. Assumes nothing.
use Rattle.text.proofs.Cuts.{put_in, put_off}
use Rattle.text.proofs.put.Goals as goal

pub returns-then-at-out : goal.returns-then-at-out
returns-then-at-out c = put_in _ _ _ c.if-at-out.true

pub returns : goal.returns
returns c = put_off _ _ _ c.if-at-out.false
