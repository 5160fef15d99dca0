-- THE CHECK OF A CLAUSE LIST: refusals 11 to 14. Assumes nothing.
use Rattle.std.specs.Prelude.{List, [], ◌∷◌, cond, ◌&&◌, ℕ, suc, leb, eqb}
use Rattle.word.specs.Word.{kind, payload, boolean}
use Rattle.refusal.specs.Table.{and_then, unless}
use Rattle.refusal.specs.Table.{Checked}
use Rattle.std.specs.Prelude.{Err}
use Rattle.refusal.specs.declared.Refusal.TheVariants.{ClauseWord, UnknownBoolean, LiteralCount, OpenClause}

-- 11, 12 and 13 word by word, and 14 at the end: the Booleans from 1 to n may occur, and k literals stand since the last end word.
unfoldable pub list_from : ℕ → ℕ → ℕ → List ℕ → Checked
list_from n at k [] = unless (eqb k 0) (OpenClause at)
list_from n at k (w ∷ ws) =
    let end : Checked = and_then (unless (eqb (payload w) k) (LiteralCount at)) (list_from n (suc at) 0 ws) in
    let literal : Checked = and_then (unless (leb 1 (boolean w) && leb (boolean w) n) (UnknownBoolean at)) (list_from n (suc at) (suc k) ws) in
    cond (eqb (kind w) 3) end (cond (eqb (kind w) 2) literal (Err (ClauseWord at)))
