-- So many of the words before the turn's are terms without a sign.
use Rattle.std.specs.Prelude.{◌≡◌, ◌/◌, ◌==◌, take, count_by}
use Rattle.word.specs.Word.{half}
use Rattle.constraint_words.proofs.count_unsigned.Given as goal

abbrev pub invariant-loop-w : goal.invariant-loop-w
invariant-loop-w l = l.terms ≡ count_by (λ w. w / half == 2) (take l.w-index l.items)
