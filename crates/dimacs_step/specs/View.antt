-- THE READER'S STATE as a state of the machine that reads a byte at a time: for what our own functions promise each other. Assumes nothing.
use Rattle.std.specs.Prelude.{Bool, false, cond, ℕ, ◌+◌, ◌-◌, ◌*◌, eqb, leb}
use Rattle.dimacs_text.specs.Machine as machine
use Rattle.dimacs_text.specs.Machine.{Count, count}
use Rattle.dimacs_step.specs.declared.Phase.{Phase}
use Rattle.dimacs_step.specs.declared.Phase.TheVariants.{Before, CommentBefore, P, C, Cn, Cnf, AfterP, AfterCnf, First, AfterFirst, Second, Gap, Comment, Minus, Literal, Closed}
use Rattle.dimacs_step.specs.declared.State.{State}
use Rattle.dimacs_step.specs.declared.Next.{Next}
use Rattle.dimacs_step.specs.declared.Next.TheVariants.{Bad, On, Put}

-- What the header and the clauses so far leave.
abbrev pub counts : State → Count
counts s = count s.most s.left s.literals

abbrev pub at : Phase → Bool → Count → ℕ → State
at p f w v = record { phase = p; flag = f; most = w.most; left = w.left; literals = w.literals; value = v }

-- The machine's state.
abbrev pub state : Phase → Bool → Count → ℕ → machine.State
state Before f w v = machine.gap machine.before f
state CommentBefore f w v = machine.comment machine.before
state P f w v = machine.seen_p
state C f w v = machine.seen_c
state Cn f w v = machine.seen_cn
state Cnf f w v = machine.seen_cnf
state AfterP f w v = machine.spaces machine.after_p
state AfterCnf f w v = machine.spaces machine.after_cnf
state First f w v = machine.num machine.first v
state AfterFirst f w v = machine.spaces (machine.after_first w.most)
state Second f w v = machine.num (machine.second w.most) v
state Gap f w v = machine.gap (machine.after w) f
state Comment f w v = machine.comment (machine.after w)
state Minus f w v = machine.minus w
state Literal f w v = machine.num (machine.literal w f) v
state Closed f w v = machine.closed w

abbrev pub view : State → machine.State
view s = state s.phase s.flag (counts s) s.value

abbrev pub next : Next → machine.Next
next Bad = machine.bad
next (On s) = machine.on (view s)
next (Put s w) = machine.put (view s) w

-- One digit more of a number that may be at most `limit`.
abbrev pub grown : Phase → State → ℕ → ℕ → machine.Next
grown p s limit b =
    let v : ℕ = 10 * s.value + (b - 48) in
    cond (eqb s.value 0) machine.bad (cond (leb v limit) (machine.on (state p s.flag (counts s) v)) machine.bad)

-- The byte behind a space of the header, where a number follows.
abbrev pub opened : Phase → Phase → State → ℕ → machine.Next
opened gap number s b =
    cond (machine.space? b) (machine.on (state gap false (counts s) 0))
    (cond (machine.digit? b) (machine.on (state number false (counts s) (b - 48))) machine.bad)
