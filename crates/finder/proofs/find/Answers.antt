-- `finder::find` meets its contract: what it reads at a record's number are the words of that record in the table. Assumes nothing.
use Rattle.std.proofs.Common.{rules}
use Rattle.word.specs.Record.{records, no_record}
use Rattle.word.proofs.Flat.{records_length, record_at_lem}
use Rattle.word.proofs.Giving.{gives}
use Rattle.finder.specs.Find.{found_values}
use Rattle.finder.proofs.find.Goals as goal

pub returns : goal.returns
returns c =
    let t = c.args.table.now in
    gives found_values
    (c.search.ensures (records t) (records_length t) (λ k inside x replied. rw (record_at_lem t k no_record inside) (search rules)))
