-- `printout_lines::put_field` meets its contract: the number stands behind the space. Assumes nothing.
use Rattle.text.proofs.Cuts.{wrote_then}
use Rattle.printout_lines.proofs.put_field.Goals as goal

pub returns : goal.returns
returns c = wrote_then c.put-at.ensures c.put_number.ensures
