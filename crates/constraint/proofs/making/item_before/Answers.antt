-- `constraint::making::item_before` meets its contract. Assumes nothing.
use native.Mathlib.Omega.{arith}
use borrow.Author.Tests.{eq-eqb, ne_eqb}
use lib.ListN.{get_or}
use Prim.Native.Nat.{◌-◌}
use Rattle.word.specs.Word.{kind}
use Rattle.constraint.proofs.making.item_before.Goals as goal

pub returns-then-kind_of : goal.returns-then-kind_of
returns-then-kind_of c =
    let a = c.args in
    let k = kind (get_or a.words.now (a.at - 2) 0) in
    rw (c.payload_of.ensures, eq-eqb k 2 (omega arith))

pub returns : goal.returns
returns c =
    let a = c.args in
    let k = kind (get_or a.words.now (a.at - 2) 0) in
    rw (ne_eqb k 2 (omega arith))
