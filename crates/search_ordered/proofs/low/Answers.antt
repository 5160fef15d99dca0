-- `search_ordered::low` meets its contract: as levels ascend, that of the last record tells. Assumes nothing.
use mathlib.Core.Path.{sym}
use mathlib.Core.Bool.{true≢false}
use Prim.Native.Nat.{◌-◌}
use native.Mathlib.Omega.{arith}
use borrow.Author.Tests.{ltb-true}
use Rattle.word.proofs.Labels.{labelled_length, labelled_at}
use Rattle.search_ordered.proofs.Search.{low_last}
use Rattle.search_ordered.proofs.low.Goals as goal

pub returns-then-level-ge-LOW : goal.returns-then-level-ge-LOW
returns-then-level-ge-LOW c e = absurd (true≢false (sym e))

pub returns-then-count-eq0 : goal.returns-then-count-eq0
returns-then-count-eq0 c e =
    let rs = c.args.ordered.records in
    (λ k h. absurd (omega (arith, c.if-count-eq0.true, labelled_length rs.table.now rs.count rs.fit)), omega (arith, c.if-level-ge-LOW.false))

pub returns : goal.returns
returns c e =
    let some = c.if-count-eq0.false in
    let rs = c.args.ordered.records in
    let n = labelled_length rs.table.now rs.count rs.fit in
    let last = ltb-true _ _ e in
    (low_last _ c.args.ordered.sorted (rs.count - 1) (omega arith) (rw (labelled_at rs.table.now rs.count rs.fit (rs.count - 1) (omega arith)) (rw (c.level.ensures) at last)), omega (arith, c.if-level-ge-LOW.false))
