-- `dimacs_writer::put_header` meets its contract: its pieces stand one behind the other. Assumes nothing.
use Rattle.text.proofs.Cuts.{wrote_then}
use Rattle.dimacs_writer.proofs.put_header.Goals as goal

pub returns : goal.returns
returns c = wrote_then (wrote_then (wrote_then (wrote_then c.put_all-a.ensures c.put_number-b.ensures) c.put-c.ensures) c.put_number-d.ensures) c.put.ensures
