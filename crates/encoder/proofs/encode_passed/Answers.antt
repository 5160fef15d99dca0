-- `encoder::encode_passed` meets its contract: the answer is that of the constraint that the words state. Assumes nothing.
use Rattle.std.proofs.Common.{rules}
use Rattle.constraint_words.proofs.Limits.{passed_main}
use Rattle.encoder.proofs.Words.{promise}
use Rattle.encoder.proofs.encode_passed.Goals as goal

pub make-requires : goal.make-requires
make-requires c = (passed_main c.args.limits c.args.words.now c.requires.0, c.requires.1)

pub encode_record-requires : goal.encode_record-requires
encode_record-requires c = (c.args.words.now, passed_main c.args.limits c.args.words.now c.requires.0, c.make.ensures)

-- the lists are the caller's again, as the record's call left them
pub returns : goal.returns
returns c =
    let l = c.args.limits in
    let ws = c.args.words.now in
    let p = promise l ws c.requires.0 c.args.table.now c.args.edges.now c.args.clauses.now _ _ _ _ (c.encode_record.ensures.answered ws (passed_main l ws c.requires.0) c.make.ensures) in
    search rules
