-- WHAT FINDS ROOM AND WHAT DOES NOT: the reply, its values and the lent list in both cases; and the values for a text that is not DIMACS. Assumes nothing.
use mathlib.Core.Path.{◌≡◌, refl, sym, ap}
use mathlib.Core.List.{List}
use Prim.Native.Nat.{ℕ, ◌≤◌, ◌<◌}
use lib.ListN.{length}
use borrow.Author.Tests.{le-leb, lt-leb}
use Rattle.refusal.specs.declared.Refusal.{Refusal}
use Rattle.refusal.specs.declared.Refusal.TheVariants.{NoRoom}
use Rattle.std.specs.Prelude.{Result, Ok, Err}
use Rattle.dimacs_text.specs.Claim.{wrong}
use Rattle.dimacs_text.specs.Reply.{converted_values, fitted, words_reply, converted_left}

module _ (xs : List ℕ) (room : ℕ) where
  pub fitted_in : length xs ≤ room → fitted xs room ≡ Ok (length xs)
  unfolding fitted
  fitted_in h = rw (le-leb (length xs) room h)

  pub fitted_out : room < length xs → fitted xs room ≡ Err NoRoom
  unfolding fitted
  fitted_out h = rw (lt-leb (length xs) room h)

  -- the values: 0, 0 and the length; refusal 15 at 0
  pub values_in : length xs ≤ room → converted_values (fitted xs room) ≡ record { number = 0; place = 0; length = length xs }
  values_in h = ap converted_values (fitted_in h)

  pub values_out : room < length xs → converted_values (fitted xs room) ≡ record { number = 15; place = 0; length = 0 }
  values_out h = ap converted_values (fitted_out h)

-- the values for a text that is wrong at byte k: refusal 16 at k
pub values_wrong : (k room : ℕ) → converted_values (words_reply (wrong k) room) ≡ record { number = 16; place = k; length = 0 }
values_wrong k room = refl

-- the list after a reply that is known
pub left_as : (r s : Result ℕ Refusal) (room : ℕ) (xs : List ℕ) → r ≡ s → converted_left s room xs ≡ converted_left r room xs
left_as r s room xs e = sym (ap (λ (x : Result ℕ Refusal). converted_left x room xs) e)
