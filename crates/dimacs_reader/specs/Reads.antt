-- THE READER'S PROMISE, over the text and the lent list before and after: the reply, and what the list holds, by what the text says. Assumes nothing.
use Rattle.std.specs.Prelude.{◌≡◌, List, ℕ, length, Result}
use Rattle.refusal.specs.declared.Refusal.{Refusal}
use Rattle.word.specs.Gives.{Gives}
use Rattle.dimacs_text.specs.Claim.{Verdict, Says}
use Rattle.dimacs_text.specs.Reply.{converted_values, words_reply, words_said, converted_left}

pub record Reads (text out out' : List ℕ) (r : Result ℕ Refusal) : Type 0 where
  pub verdict : Verdict
  pub says : Says text verdict
  pub reply : Gives converted_values (words_reply verdict (length out)) r
  pub list : out' ≡ converted_left (words_reply verdict (length out)) (length out) (words_said verdict)
