-- `printout::words_of` meets its contract. The invariant: the first k words are in. Assumes nothing.
use Rattle.std.proofs.Common.{◌≡◌, ℕ, ◌*◌, arith, length-set, subst}
use Rattle.text.specs.Cut.{Printed}
use Rattle.printout.specs.Shown.{words_in}
use Rattle.printout.proofs.Input.{word_at, read_none, read_more, read_done}
use Rattle.printout.proofs.words_of.Goals as goal

pub words-init : goal.words-init
words-init c = read_none _ _

pub words-preserved : goal.words-preserved
words-preserved c =
    let args = c.args in
    let l = c.words in
    rw c.word_of.ensures
    (read_more args.bytes.now args.words.now l.words l.k (omega (arith, l.invariant.kept)) (omega arith) (length-set l.words l.k (word_at args.bytes.now (l.k * 4))) l.invariant)

pub returns : goal.returns
returns c =
    let l = c.words in
    let e : l.k ≡ c.min-count.result = omega (arith, l.invariant.within, l.invariant.full) in
    subst (λ (n : ℕ). Printed (words_in c.args.bytes.now) c.args.words.now l.words n) e (read_done _ _ _ _ (omega arith) l.invariant)
