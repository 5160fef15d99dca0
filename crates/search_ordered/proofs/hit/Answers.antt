-- `search_ordered::hit` meets its contract: the words of record p are the record. Assumes nothing.
use mathlib.Core.Path.{refl}
use lib.ListN.{length}
use borrow.Author.Tests.{lt-ltb, le-ltb}
use native.Mathlib.Omega.{arith}
use Rattle.word.specs.Record.{labelled}
use Rattle.word.proofs.Labels.{labelled_length, labelled_at}
use Rattle.search_ordered.proofs.hit.Goals as goal

pub returns-then-p-records : goal.returns-then-p-records
returns-then-p-records c =
    let rs = c.args.records in
    let n = labelled_length rs.table.now rs.count rs.fit in
    rw (lt-ltb c.args.p.0 (length (labelled rs.table.now rs.count)) (omega arith), labelled_at rs.table.now rs.count rs.fit c.args.p.0 (omega arith))
    (rw (c.level.ensures, c.lower.ensures, c.upper.ensures) at c.holds.ensures)

pub returns : goal.returns
returns c =
    let rs = c.args.records in
    let n = labelled_length rs.table.now rs.count rs.fit in
    rw (le-ltb c.args.p.0 (length (labelled rs.table.now rs.count)) (omega arith)) refl
