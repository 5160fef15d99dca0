-- `comparer::has_four` meets its contract: the word that the four bytes make is compared with word k. Assumes nothing.
use Rattle.std.proofs.Common.{◌≡◌, ◌+◌, ◌*◌, arith, get_or}
use Rattle.word.specs.Word.{of_bytes}
use Rattle.comparer.proofs.Turns.{four_test}
use Rattle.comparer.proofs.has_four.Goals as goal

pub returns : goal.returns
returns c =
    let bs = c.args.bytes.now in
    let at = c.args.k * 4 in
    let made : c.from_be_bytes.result ≡ of_bytes (get_or bs at 0) (get_or bs (at + 1) 0) (get_or bs (at + 2) 0) (get_or bs (at + 3) 0) = omega (arith, c.from_be_bytes.ensures) in
    rw made
    (four_test
    bs
    c.args.words.now
    c.args.k
    c.requires.1
    (λ i. omega (arith, c.type_inv.bytes i))
    (omega (arith, c.type_inv.words c.args.k)))
