-- `constraint::making::make_items` meets its contract. The loop's invariant, `Making`: the items from `at` on are in, and so many levels are left as there are terms before.
-- Assumes nothing.
use mathlib.Core.Path.{◌≡◌}
use Rattle.inequality.specs.Base.{turned_by}
use Rattle.constraint_words.specs.Reading.{relation_in}
use Rattle.constraint.proofs.Made.{Making}
use Rattle.constraint.proofs.making.make_items.Given as goal

abbrev pub invariant-levels : goal.invariant-levels
invariant-levels l = (l.turned ≡ turned_by (relation_in l.words)) × Making l.words l.made l.bound l.at l.level
