-- `search_store::copy_label` meets its contract: the words that are read are the label. Assumes nothing.
use Rattle.search_store.proofs.Stored.{words_at}
use Rattle.search_store.proofs.copy_label.Goals as goal

pub returns : goal.returns
returns c = rw (words_at c.args.s.now c.args.from.0 c.requires.0) c.store_label.ensures
