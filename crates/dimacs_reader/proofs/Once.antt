-- THE PROMISE LEAVES NO CHOICE: a text says one thing only, so two replies that keep the reader's promise are the same, and so are the lists. Assumes nothing.
use mathlib.Core.Path.{◌≡◌, sym, ap, ◌∙◌}
use mathlib.Core.List.{List}
use Prim.Native.Nat.{ℕ}
use lib.ListN.{length}
use Rattle.std.specs.Prelude.{Result}
use Rattle.refusal.specs.declared.Refusal.{Refusal}
use Rattle.dimacs_text.specs.Claim.{Verdict}
use Rattle.dimacs_text.specs.Reply.{words_reply, words_said, converted_left}
use Rattle.dimacs_text.proofs.Verdicts.{says_one}
use Rattle.dimacs_reader.specs.Reads.{Reads}

pub reads_one : (text out a b : List ℕ) (r s : Result ℕ Refusal) → Reads text out a r → Reads text out b s → (r ≡ s) × (a ≡ b)
reads_one text out a b r s p q =
    let e : p.verdict ≡ q.verdict = says_one text p.verdict q.verdict p.says q.says in (
      p.reply.same ∙ ap (λ (v : Verdict). words_reply v (length out)) e ∙ sym q.reply.same,
      p.list ∙ ap (λ (v : Verdict). converted_left (words_reply v (length out)) (length out) (words_said v)) e ∙ sym q.list,
    )
