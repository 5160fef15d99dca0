-- `printout::put_reply` meets its contract: by the two cases of the reply, and by the form where it has accepted. Assumes nothing.
use mathlib.Core.Path.{sym, ap}
use lib.Seq.{length-take-le}
use Rattle.dimacs_text.specs.Written.{written}
use Rattle.text.proofs.Cuts.{wrote_as}
use Rattle.printout.proofs.put_reply.Goals as goal

pub put_diagram-requires : goal.put_diagram-requires
put_diagram-requires c = let d = rw c.in-Ok.is at c.requires in (d.0, d.2.0)

pub slice_bounds-put_text-end : goal.slice_bounds-put_text-end
slice_bounds-put_text-end c = let d = rw c.in-Ok.is at c.requires in sym (length-take-le _ _ d.2.1)

pub returns-in-Err : goal.returns-in-Err
returns-in-Err c = λ ns cs l. rw c.in-Err.is c.put_refusal.ensures

pub returns-in-Diagram : goal.returns-in-Diagram
returns-in-Diagram c = λ ns cs l. (let d = rw c.in-Ok.is at l in rw (c.in-Ok.is, c.in-Diagram.is) (c.put_diagram.ensures ns d.0))

pub returns-in-Clauses : goal.returns-in-Clauses
returns-in-Clauses c = λ ns cs l. (let d = rw c.in-Ok.is at l in rw (c.in-Ok.is, c.in-Clauses.is) (wrote_as (ap written d.2) c.put_text.ensures))
