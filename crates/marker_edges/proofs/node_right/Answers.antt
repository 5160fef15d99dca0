-- `marker_edges::node_right` meets its contract: the number, the level and the label are tested in turn. Assumes nothing.
use borrow.Author.Rules.{rules}
use Rattle.marker_edges.proofs.Turns.{number_past, other_level, same_level}
use Rattle.marker_edges.proofs.node_right.Goals as goal

pub returns-then-table-k : goal.returns-then-table-k
returns-then-table-k c = let a = c.args in number_past a.table.words.now a.p a.offset a.k.0 (search rules)

pub returns-then-table-at : goal.returns-then-table-at
returns-then-table-at c = let a = c.args in other_level a.table.words.now a.p a.offset a.k.0 (search rules) c.if-table-at.true

pub returns : goal.returns
returns c = let a = c.args in same_level a.table.words.now a.p a.offset a.k.0 (search rules) (search rules) _ c.holds_all.ensures
