-- `constraint_words::count_terms` meets its contract. Assumes nothing.
use mathlib.Core.Path.{sym, ap, ◌∙◌}
use Rattle.std.specs.Prelude.{count_by}
use Rattle.std.proofs.lemmas.List.{take_rest}
use Rattle.constraint_words.proofs.Items.{terms_by}
use Rattle.constraint_words.proofs.count_terms.Goals as goal

pub returns : goal.returns
returns c = c.count_but_lowers.ensures ∙ ap (count_by _) (take_rest c.args.words.now c.args.first) ∙ sym (terms_by _)
