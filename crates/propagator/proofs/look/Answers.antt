-- `propagator::look` meets its contract. The loop's invariant: the status from here on, with the open literal so far, is the clause's (`Looking`); an end word
-- is still to come, so no length is tested. Assumes nothing.
use native.Mathlib.Omega.{arith}
use Rattle.propagator.proofs.Looks.{looking_done, looking_word, looking_neither, looking_on}
use Rattle.propagator.proofs.look.Goals as goal

pub returns-then-w-ge-LEAST_END : goal.returns-then-w-ge-LEAST_END
returns-then-w-ge-LEAST_END c =
    looking_done c.args.bytes.now c.args.words.now c.args.from c.literals.found c.literals.at c.literals.invariant
    (omega (arith, c.type_inv.words c.literals.at))

pub meet-found-requires : goal.meet-found-requires
meet-found-requires c = (
  looking_word c.args.bytes.now c.args.words.now c.args.from c.literals.found c.literals.at c.literals.invariant
      c.requires.0 (λ e. omega (arith, e)),
  c.literals.invariant.met.literal,
)

pub returns-then-found : goal.returns-then-found
returns-then-found c =
    looking_neither c.args.bytes.now c.args.words.now c.args.from c.literals.found c.literals.at c.literals.invariant
    c.requires.0 (λ e. omega (arith, e)) c.meet-found.result c.meet-found.ensures (omega arith)

pub literals-preserved : goal.literals-preserved
literals-preserved c =
    looking_on c.args.bytes.now c.args.words.now c.args.from c.literals.found c.literals.at c.literals.invariant
    c.requires.0 (λ e. omega (arith, e)) c.meet-found.result c.meet-found.ensures
