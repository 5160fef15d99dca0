-- `search_runs::merging::last_above` meets its contract: where there is a last record, its key is that of its words. Assumes nothing.
use Prim.Native.Nat.{◌-◌}
use mathlib.Core.Path.{ap}
use native.Mathlib.Omega.{arith}
use borrow.Author.Tests.{lt-ltb}
use lib.Dec.{ltb}
use Rattle.search_store.proofs.Stored.{words_at}
use Rattle.search_runs.proofs.merging.last_above.Goals as goal

pub returns : goal.returns
returns c = rw (lt-ltb 0 c.args.i (omega arith), words_at c.args.table.now (c.args.i - 1) (omega arith)) (ap (ltb c.args.k) c.key_of.ensures)
