-- `printout_lines::put_children` meets its contract. The invariant: the children before the next are in, and those from it on are left. Assumes nothing.
use Rattle.text.proofs.Cuts.{Left}
use Rattle.printout_lines.proofs.Turns.{child_text_left}
use Rattle.printout_lines.proofs.put_children.Given as goal

abbrev pub invariant-children : goal.invariant-children
invariant-children l = Left (child_text_left l.edges 0) l.start l.initial.out (child_text_left l.edges l.w-index) l.at l.out
