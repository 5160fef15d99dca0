-- `constraint_places::check_places` meets its contract. The loop's invariant: the check of the words from `at` on, with what is due, is that of all items. Assumes
-- nothing.
use mathlib.Core.Path.{◌≡◌}
use mathlib.Core.Bool.{false}
use lib.ListN.{drop}
use Rattle.constraint_words.specs.Reading.{placed_from}
use Rattle.constraint_places.proofs.check_places.Given as goal

abbrev pub invariant-places : goal.invariant-places
invariant-places l = placed_from false l.first (drop l.first l.words) ≡ placed_from l.due l.at (drop l.at l.words)
