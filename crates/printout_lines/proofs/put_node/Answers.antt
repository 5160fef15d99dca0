-- `printout_lines::put_node` meets its contract: its pieces stand one behind the other. Assumes nothing.
use Rattle.text.proofs.Cuts.{wrote_then}
use Rattle.printout_lines.proofs.put_node.Goals as goal

pub returns : goal.returns
returns c =
    let first = wrote_then (wrote_then c.put_number-a.ensures c.put_field-b.ensures) c.put_field-c.ensures in
    let ends = wrote_then (wrote_then first c.put_field-d.ensures) c.put_field-e.ensures in
    rw (c.level.ensures, c.lower.ensures, c.upper.ensures, c.entering.ensures) at (wrote_then (wrote_then ends c.put_children-f.ensures) c.put.ensures)
