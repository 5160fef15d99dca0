-- `search_store::insert` meets its contract: the label fills the room that `make_room` leaves. Assumes nothing.
use Rattle.word.specs.Record.{label_from}
use Rattle.search_store.proofs.Insertion.{insert_leaves}
use Rattle.search_store.proofs.insert.Goals as goal

pub returns : goal.returns
returns c =
    let x = label_from c.args.level c.args.lower c.args.upper in
    insert_leaves c.args.table.now _ _ c.args.count c.args.p.0 x c.requires.0 c.requires.1 c.make_room.ensures c.store_label.ensures
