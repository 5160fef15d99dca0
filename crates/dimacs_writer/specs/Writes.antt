-- WHAT THE WRITER PROMISES for a clause list and lent bytes. Assumes nothing.
use Rattle.std.specs.Prelude.{◌≡◌, List, ◌++◌, ℕ, length, Result}
use Rattle.refusal.specs.declared.Refusal.{Refusal}
use Rattle.word.specs.Gives.{Gives}
use Rattle.dimacs_text.specs.Written.{greatest, clause_count, header, body, written}
use Rattle.dimacs_text.specs.Reply.{converted_values, text_reply, converted_left}
use Rattle.dimacs_writer.specs.declared.Header.{Header}

-- THE PROMISE, over the lent bytes before and after: the reply, and the text that they hold.
pub record Writes (ws out out' : List ℕ) (r : Result ℕ Refusal) : Type 0 where
  pub reply : Gives converted_values (text_reply ws (length out)) r
  pub text : out' ≡ converted_left (text_reply ws (length out)) (length out) (written ws)

-- For the contracts of private functions: the header's numbers of a list, and the text of a list under a header with any numbers.
abbrev pub headed : List ℕ → Header
headed ws = record { most = greatest ws; clauses = clause_count ws }

abbrev pub text_under : Header → List ℕ → List ℕ
text_under h ws = header h.most h.clauses ++ body ws
