-- `search_ordered::found_at` meets its contract: the record at the gap is the only one that can hold the remainder, and the test decides whether
-- it does. Assumes nothing.
use mathlib.Core.Path.{sym, ◌∙◌}
use borrow.Author.Rules.{rules}
use Rattle.search_ordered.proofs.Search.{hits_reply, hits_not, gap_miss}
use Rattle.search_ordered.proofs.found_at.Goals as goal

pub returns-then-hit : goal.returns-then-hit
returns-then-hit c = hits_reply _ c.args.ordered.sorted _ _ c.args.p (sym c.hit.ensures ∙ c.if-hit.true)

pub returns : goal.returns
returns c = gap_miss _ c.args.ordered.sorted _ _ c.args.p (search rules) c.requires (hits_not _ c.args.level c.args.r.0 c.args.p (sym c.hit.ensures ∙ c.if-hit.false))
