-- `dimacs_writer::fits` meets its contract. The invariant: what is left of the room, less the words from this one on, is what was left behind the header, less all words.
-- Assumes nothing.
use mathlib.Core.Path.{◌≡◌}
use Prim.Native.Nat.{◌+◌}
use lib.ListN.{length, drop}
use Rattle.dimacs_text.specs.Written.{body}
use Rattle.dimacs_writer.proofs.fits.Given as goal

abbrev pub invariant-loop-w : goal.invariant-loop-w
invariant-loop-w l = length (body l.words) + l.rest ≡ l.initial.rest + length (body (drop l.w-index l.words))
