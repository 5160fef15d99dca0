-- `comparer::compare` meets its contract: the replies by what the loop passed and where it stopped. Assumes nothing.
use Rattle.std.proofs.Common.{◌≡◌, sym, ◌∙◌, arith}
use Rattle.word.proofs.Giving.{gives}
use Rattle.comparer.specs.Bytes.{compared_values}
use Rattle.comparer.proofs.Turns.{word_apart, none_left, ends_apart}
use Rattle.comparer.proofs.compare.Goals as goal

pub returns-then-not-has_four : goal.returns-then-not-has_four
returns-then-not-has_four c =
    gives compared_values (sym (word_apart _ _ c.loop-k.k c.loop-k.invariant (omega arith) (sym c.has_four.ensures ∙ c.if-not-has_four.true)))

pub returns-then-bytes-words : goal.returns-then-bytes-words
returns-then-bytes-words c =
    gives compared_values (sym (none_left _ _ c.loop-k.k c.loop-k.invariant (omega arith) (omega arith)))

pub returns-else-bytes-words : goal.returns-else-bytes-words
returns-else-bytes-words c =
    let at_end : c.loop-k.k ≡ c.min-full.result = omega arith in
    gives compared_values
    (sym (ends_apart _ _ _ (rw at_end at c.loop-k.invariant) (omega arith) (omega arith) (λ i. omega (arith, i)) (λ e. omega (arith, e))))
