-- `printout_lines::put_counts` meets its contract: its pieces stand one behind the other. Assumes nothing.
use Rattle.text.proofs.Cuts.{wrote_then}
use Rattle.printout_lines.proofs.put_counts.Goals as goal

pub returns : goal.returns
returns c =
    let first = wrote_then c.put_all-a.ensures c.put_number-b.ensures in
    let second = wrote_then (wrote_then first c.put_all-c.ensures) c.put_number-d.ensures in
    wrote_then (wrote_then (wrote_then second c.put_all-e.ensures) c.put_number-f.ensures) c.put.ensures
