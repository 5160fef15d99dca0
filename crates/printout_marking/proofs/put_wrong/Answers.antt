-- `printout_marking::put_wrong` meets its contract: of a bad record the pieces stand one behind the other. Assumes nothing.
use Rattle.text.proofs.Cuts.{wrote_then}
use Rattle.printout_marking.proofs.put_wrong.Goals as goal

pub returns : goal.returns
returns c = rw c.in-BadRecord.is (wrote_then (wrote_then c.put_all-a.ensures c.put_number-b.ensures) c.put.ensures)
