-- A REPLY THAT A DEFINITION GIVES, with the values that a caller reads from it: the form of the promise of each call whose answer is an enum. Assumes nothing.
use Rattle.std.specs.Prelude.{◌≡◌}

-- The reply is the wanted one, and the values that stand for each of its cases are those of the wanted one.
pub record Gives {E V' : Type 0} (values_of : E → V') (wanted reply : E) : Type 0 where
  pub same : reply ≡ wanted
  pub values : values_of reply ≡ values_of wanted
