-- `constraint_places::check_lowers` meets its contract: where there are as many terms as words no word is a lower end. Assumes nothing.
use mathlib.Core.Path.{sym}
use native.Mathlib.Omega.{arith}
use lib.ListN.{drop, length-drop}
use Rattle.constraint_words.proofs.Items.{no_lowers}
use Rattle.constraint_places.proofs.check_lowers.Goals as goal

pub returns-then-terms-words : goal.returns-then-terms-words
returns-then-terms-words c =
    let ws = c.args.words.now in
    sym (no_lowers c.args.first (drop c.args.first ws) (omega (arith, c.requires.1, length-drop c.args.first ws)))
