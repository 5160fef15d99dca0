-- `constraint_words::is_plain` meets its contract. Assumes nothing.
use mathlib.Core.Path.{ap, sym, ◌∙◌}
use Prim.Native.Nat.{ℕ, ◌+◌}
use lib.Dec.{eqb}
use lib.ListN.{length, drop}
use Rattle.std.specs.Prelude.{count_by}
use Rattle.std.proofs.lemmas.List.{take_rest}
use Rattle.constraint_words.proofs.Plain.{unsigned_by}
use Rattle.constraint_words.proofs.is_plain.Goals as goal

pub returns : goal.returns
returns c =
    let ws = c.args.words.now in
    ap (λ (n : ℕ). eqb (n + 1) (length ws)) (c.count_unsigned.ensures ∙ ap (count_by _) (take_rest ws 1) ∙ sym (unsigned_by (drop 1 ws)))
