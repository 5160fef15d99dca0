-- `search_store::store_label` meets its contract, by the law of a label's stores. Assumes nothing.
use native.Mathlib.Omega.{arith}
use lib.ListN.{length-set}
use Rattle.search_store.proofs.Stored.{label_stored}
use Rattle.search_store.proofs.store_label.Goals as goal

pub bounds-table-b-2 : goal.bounds-table-b-2
bounds-table-b-2 c = simp length-set (omega arith)

pub bounds-table-b-3 : goal.bounds-table-b-3
bounds-table-b-3 c = simp length-set (omega arith)

pub returns : goal.returns
returns c = let a = c.args in label_stored a.table.now a.k.0 a.level a.lower a.upper c.requires
