-- `constraint_words::check_each` meets its contract. The loop's invariant: the check of the words from `at` on is that of all. Assumes nothing.
use Rattle.std.proofs.Common.{ℕ, ◌≡◌, drop}
use Rattle.refusal.specs.Table.{Checked}
use Rattle.constraint_words.specs.Reading.{each_from, Replies}
use Rattle.constraint_words.proofs.check_each.Given as goal

abbrev pub invariant-words : goal.invariant-words
invariant-words g l = (told : ℕ → ℕ → Checked) → Replies (goal.F-post g l.check) told → each_from told l.first (drop l.first l.words) ≡ each_from told l.at (drop l.at l.words)
