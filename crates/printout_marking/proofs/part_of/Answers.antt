-- `printout_marking::part_of` meets its contract, by the two tests of the count. Assumes nothing.
use Rattle.std.proofs.Common.{arith}
use Rattle.printout_marking.proofs.Parts.{part_none, part_short, part_whole}
use Rattle.printout_marking.proofs.part_of.Goals as goal

pub returns-in_default : goal.returns-in_default
returns-in_default c = part_none _ c.in_default.len_below

pub returns-then-rest-n : goal.returns-then-rest-n
returns-then-rest-n c = part_short c.args.words.now c.in-len1-up.len_at_least (omega arith)

pub returns : goal.returns
returns c = part_whole c.args.words.now _ _ c.in-len1-up.len_at_least (omega arith) c.split_at.ensures.front c.split_at.ensures.back
