-- PUTTING A RECORD IN among others. Assumes nothing.
use Rattle.std.specs.Prelude.{ℕ, zero, suc, List, [], ◌∷◌}
use Rattle.word.specs.Record.{Record}

-- A record put in at number p.
unfoldable pub insert_at : ℕ → Record → List Record → List Record
insert_at zero x xs = x ∷ xs
insert_at (suc p) x [] = x ∷ []
insert_at (suc p) x (y ∷ ys) = y ∷ insert_at p x ys
