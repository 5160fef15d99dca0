-- `printout_lines::put_children` meets its contract. The invariant: the children before the next are in, and those from it on are left. Assumes nothing.
use native.Mathlib.Omega.{arith}
use Rattle.text.proofs.Cuts.{left_less, left_none, wrote_then}
use Rattle.printout_lines.proofs.Turns.{child_text_turn, child_text_none}
use Rattle.printout_lines.proofs.put_children.Goals as goal

pub children-preserved : goal.children-preserved
children-preserved c =
    left_less (child_text_turn c.args.edges.now c.children.w-index (omega arith)) c.children.invariant
    (wrote_then c.put-next.ensures c.put_child-at.ensures)

pub returns : goal.returns
returns c = left_none (child_text_none c.args.edges.now c.children.w-index (omega arith)) c.children.invariant
