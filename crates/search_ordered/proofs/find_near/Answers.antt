-- `search_ordered::find_near` meets its contract: the record that holds the remainder, or else the reply by way of the gap. Assumes nothing.
use mathlib.Core.Path.{sym, ◌∙◌}
use Rattle.search_ordered.proofs.Search.{hits_reply}
use Rattle.search_ordered.proofs.find_near.Goals as goal

pub returns-then-hit : goal.returns-then-hit
returns-then-hit c = hits_reply _ c.args.ordered.sorted _ _ c.args.guess.0 (sym c.hit.ensures ∙ c.if-hit.true)
