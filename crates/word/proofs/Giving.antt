-- A reply that is the wanted one gives its values. Assumes nothing.
use mathlib.Core.Path.{◌≡◌, ap}
use Rattle.word.specs.Gives.{Gives}

pub gives : {E V' : Type 0} (values_of : E → V') {wanted reply : E} → reply ≡ wanted → Gives values_of wanted reply
gives values_of e = record { same = e; values = ap values_of e }
