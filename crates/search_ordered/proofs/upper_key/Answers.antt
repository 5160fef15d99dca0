-- `search_ordered::upper_key` meets its contract: the words of record k are the record. Assumes nothing.
use borrow.Author.Rules.{rules}
use Rattle.word.proofs.Labels.{labelled_at}
use Rattle.search_ordered.proofs.upper_key.Goals as goal

pub returns : goal.returns
returns c = rw (labelled_at _ _ c.args.records.fit _ c.requires) (search rules)
