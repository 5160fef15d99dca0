-- `search_ordered::find_from` meets its contract, by those of the test and of the gap, wherever the guesses lie. Assumes nothing.
use mathlib.Core.Path.{sym, ◌∙◌}
use Rattle.search_ordered.proofs.Search.{hits_reply}
use Rattle.search_ordered.proofs.find_from.Goals as goal

pub returns-then-hit : goal.returns-then-hit
returns-then-hit c = hits_reply _ c.args.ordered.sorted _ _ c.pass_few-k.result (sym c.hit.ensures ∙ c.if-hit.true)
