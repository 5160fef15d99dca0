-- `dimacs_writer::put_list` meets its contract. The invariant: the words before this one are in, behind the header's line, and those from it on are left. Assumes nothing.
use lib.ListN.{drop}
use Rattle.text.proofs.Cuts.{Left}
use Rattle.dimacs_text.specs.Written.{body}
use Rattle.dimacs_writer.proofs.put_list.Given as goal

abbrev pub invariant-loop-w : goal.invariant-loop-w
invariant-loop-w l = Left (body l.words) l.initial.at l.initial.out (body (drop l.w-index l.words)) l.at l.out
