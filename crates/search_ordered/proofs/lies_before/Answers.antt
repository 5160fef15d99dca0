-- `search_ordered::lies_before` meets its contract: the words of record k are the record. Assumes nothing.
use Rattle.word.proofs.Labels.{labelled_at}
use Rattle.search_ordered.proofs.lies_before.Goals as goal

pub returns : goal.returns
returns c = rw (labelled_at _ _ c.args.records.fit _ c.requires) (rw (c.level.ensures, c.upper.ensures) at c.below.ensures)
