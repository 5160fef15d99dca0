-- `propagator::settle` meets its contract. The loop's invariant: the bytes hold nothing but what is settled from where it began, and no clause before the place
-- asks for anything; its measure: the open bytes. Assumes nothing.
use Rattle.clause.specs.Meaning.{clauses_of}
use Rattle.propagation.specs.Extension.{SoundExtension, open_count}
use Rattle.propagator.specs.Pass.{StableBefore}
use Rattle.propagator.proofs.settle.Given as goal

abbrev pub invariant-passes : goal.invariant-passes
invariant-passes l = SoundExtension (clauses_of l.words) l.initial.bytes l.bytes × StableBefore l.words l.bytes l.from

abbrev pub decreases-passes : goal.decreases-passes
decreases-passes l = open_count l.bytes
