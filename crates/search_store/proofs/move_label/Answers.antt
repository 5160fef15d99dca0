-- `search_store::move_label` meets its contract: the words that are read are the label, and the next word is no part of one. Assumes nothing.
use Rattle.search_store.proofs.Stored.{words_at, first_stored}
use Rattle.search_store.proofs.move_label.Goals as goal

pub returns : goal.returns
returns c = rw (words_at c.args.table.now c.args.from.0 c.requires.0) (first_stored c.args.table.now _ c.args.to.0 _ _ c.store_label.ensures)
