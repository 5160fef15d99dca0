-- `dimacs_writer::write` meets its contract: what stands behind the text is cleared, and after a refusal all. Assumes nothing.
use Rattle.dimacs_writer.proofs.Replies.{put_writes}
use Rattle.dimacs_writer.proofs.write.Goals as goal

pub returns : goal.returns
returns c =
    let put = c.put_checked-reply.ensures in
    put_writes c.args.words.now _ _ put.reply put.front put.kept c.unwrap_or.ensures c.fill_from.ensures
