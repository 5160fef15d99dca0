-- `printout_lines::put_diagram` meets its contract: the line of the counts, and behind it the lines of the nodes. Assumes nothing.
use Rattle.text.proofs.Cuts.{wrote_then}
use Rattle.printout_lines.proofs.put_diagram.Goals as goal

pub returns : goal.returns
returns c = λ ns l. wrote_then c.put_counts-at.ensures (c.put_nodes.ensures ns l)
