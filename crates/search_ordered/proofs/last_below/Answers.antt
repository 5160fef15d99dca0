-- `search_ordered::last_below` meets its contract: each return knows which test of the definition decides. Assumes nothing.
use borrow.Author.Tests.{ne_eqb, eq-eqb, le-leb, lt-leb}
use Prim.Native.Nat.{◌≤◌}
use native.Mathlib.Omega.{arith}
use Rattle.word.proofs.Labels.{labelled_length}
use Rattle.search_ordered.proofs.last_below.Goals as goal

pub returns-then-n-eq0 : goal.returns-then-n-eq0
returns-then-n-eq0 c = simp (eq-eqb _ _ c.if-n-eq0.true)

pub returns-then-records-n : goal.returns-then-records-n
returns-then-records-n c =
    let rs = c.args.records in
    simp (ne_eqb _ _ c.if-n-eq0.false, labelled_length rs.table.now rs.count rs.fit, lt-leb _ _ c.if-records-n.true)

pub returns : goal.returns
returns c =
    let rs = c.args.records in
    let inside : c.args.n ≤ rs.count = omega arith in
    simp (ne_eqb _ _ c.if-n-eq0.false, labelled_length rs.table.now rs.count rs.fit, le-leb _ _ inside) c.lies_before.ensures
