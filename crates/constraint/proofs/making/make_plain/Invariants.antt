-- `constraint::making::make_plain` meets its contract. The loop's invariant is `Making`, with the place behind the level; nothing is added to the bound. Assumes
-- nothing.
use mathlib.Core.Path.{◌≡◌}
use Prim.Native.Nat.{◌+◌}
use lib.ListN.{get_or}
use Rattle.word.specs.Word.{payload}
use Rattle.constraint_bound.specs.declared.Bound.TheVariants.{Natural}
use Rattle.constraint.proofs.Made.{Making}
use Rattle.constraint.proofs.making.make_plain.Given as goal

abbrev pub invariant-levels : goal.invariant-levels
invariant-levels l = (l.made.bound ≡ Natural (payload (get_or l.words 0 0))) × Making l.words l.made (record { gain = payload (get_or l.words 0 0); loss = 0 }) (l.level + 1) l.level
