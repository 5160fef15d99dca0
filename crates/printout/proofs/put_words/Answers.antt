-- `printout::put_words` meets its contract: the encoder leaves the drawing of the stated constraint, and the text is printed from it. Assumes nothing.
use Rattle.refusal.specs.declared.Refusal.{Refusal}
use Rattle.filler.specs.declared.Counts.{Counts}
use Rattle.std.proofs.Common.{Result}
use mathlib.Core.Path.{ap}
use Rattle.constraint_words.specs.Reading.{stated}
use Rattle.filler.specs.Filled.{nodes_for, clauses_for}
use Rattle.printout.specs.Shown.{reply_text}
use Rattle.text.proofs.Cuts.{wrote_as}
use Rattle.printout.proofs.Lies.{promised, left_of}
use Rattle.printout.proofs.put_words.Goals as goal

pub put_reply-requires : goal.put_reply-requires
put_reply-requires c =
    let ws = c.args.words.now in
    (nodes_for (stated ws), clauses_for (stated ws), promised _ _ _ _ _ _ _ _ c.encode-reply.ensures)

pub returns : goal.returns
returns c =
    let p = c.encode-reply.ensures in
    let ws = c.args.words.now in
    let ns = nodes_for (stated ws) in
    let cs = clauses_for (stated ws) in record {
      wrote = wrote_as (ap (λ (r : Result Counts Refusal). reply_text c.args.form r ns cs) p.reply.same) (c.put_reply.ensures ns cs (promised _ _ _ _ _ _ _ _ p));
      leaves = left_of _ _ _ _ _ _ _ _ p;
    }
