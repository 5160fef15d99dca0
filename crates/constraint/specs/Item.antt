-- THE ITEM THAT ENDS BEFORE A PLACE, for the functions that make the record. Assumes nothing.
use Rattle.std.specs.Prelude.{Bool, true, false, List, ℕ, ◌-◌, get_or}
use Rattle.word.specs.Word.{payload, half}
use Rattle.constraint_words.specs.Reading.{is_lower}
use Rattle.constraint.specs.declared.making.Item.{Item}

-- Where it begins, and the payload of its lower end, which is that of 0 where none is given.
abbrev pub item_if : Bool → ℕ → ℕ → Item
item_if true at lower = record { at = at - 2; lower = lower }
item_if false at lower = record { at = at - 1; lower = half }

abbrev pub item_before : List ℕ → ℕ → Item
item_before ws at = item_if (is_lower (get_or ws (at - 2) 0)) at (payload (get_or ws (at - 2) 0))
