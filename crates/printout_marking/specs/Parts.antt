-- A COUNTED PART of a list of words, as the code's slices have it. Only the contracts of private functions speak of it. Assumes nothing.
use Rattle.std.specs.Prelude.{◌≡◌, List, ℕ, Err}
use Rattle.printout_marking.specs.declared.Fault.{Fault}
use Rattle.printout_marking.specs.Printed.{Answer, counted_answer}

-- Whatever the answer for the part that the first word of ws counts and for what follows it is, it is the answer for ws.
abbrev pub PartOf : List ℕ → List ℕ → List ℕ → Type 0
PartOf ws part rest = (answer : List ℕ → List ℕ → Answer) → answer part rest ≡ counted_answer answer ws

-- Whatever that would be, the answer for ws is this fault.
abbrev pub NoPart : List ℕ → Fault → Type 0
NoPart ws e = (answer : List ℕ → List ℕ → Answer) → Err e ≡ counted_answer answer ws
