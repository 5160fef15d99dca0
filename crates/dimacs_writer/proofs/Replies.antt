-- WHAT THE WRITER REPLIES: a list that is refused, no room, and the whole text; the tests that led there settle the definition's. And what is cleared behind it.
-- Assumes nothing.
use mathlib.Core.Path.{◌≡◌, sym, ap, ◌∙◌}
use mathlib.Core.Bool.{true, false}
use mathlib.Core.List.{List}
use Prim.Native.Nat.{ℕ}
use lib.Dec.{leb}
use lib.ListN.{length, take, replicate}
use lib.Seq.{take_all}
use borrow.Author.Tests.{leb-true}
use Rattle.word.specs.Word.{last_boolean}
use Rattle.word.specs.Padded.{cleared}
use Rattle.word.proofs.Cleared.{cleared_padded, cleared_all}
use Rattle.word.proofs.Giving.{gives}
use Rattle.text.specs.Cut.{Wrote, Printed}
use Rattle.text.proofs.Cuts.{wrote_as, printed, printed_front}
use Rattle.refusal.specs.declared.Refusal.{Refusal}
use Rattle.refusal.specs.declared.Refusal.TheVariants.{NoRoom}
use Rattle.refusal.specs.Table.{passed}
use Rattle.clause.specs.Check.{list_from}
use Rattle.std.specs.Prelude.{Result, Ok, Err, IfOk}
use Rattle.std.specs.Result.{result_unwrap_or}
use Rattle.dimacs_text.specs.Written.{written}
use Rattle.dimacs_text.specs.Reply.{converted_values, fitted, text_reply, converted_left}
use Rattle.dimacs_writer.specs.declared.Header.{Header}
use Rattle.dimacs_writer.specs.Writes.{headed, text_under, Writes}

-- the text under the header that the words give
pub under : (ws : List ℕ) (h : Header) → h ≡ headed ws → text_under h ws ≡ written ws
under ws h e = ap (λ (x : Header). text_under x ws) e

module _ (ws out : List ℕ) (h : Header) (ok : list_from last_boolean 0 0 ws ≡ passed) (e : h ≡ headed ws) where
  pub no_room : leb (length (text_under h ws)) (length out) ≡ false → Err NoRoom ≡ text_reply ws (length out)
  unfolding fitted
  no_room f =
      let full : leb (length (written ws)) (length out) ≡ false = ap (λ (t : List ℕ). leb (length t) (length out)) (sym (under ws h e)) ∙ f in
      rw (ok, full)

  module _ (f : leb (length (text_under h ws)) (length out) ≡ true) where
    fit : leb (length (written ws)) (length out) ≡ true
    fit = ap (λ (t : List ℕ). leb (length t) (length out)) (sym (under ws h e)) ∙ f

    all : take (length out) (written ws) ≡ written ws
    all = take_all (length out) (written ws) (leb-true (length (written ws)) (length out) fit)

    module _ {mid : List ℕ} {n : ℕ} (w : Wrote (text_under h ws) 0 out mid n) where
      whole : Printed (written ws) out mid n
      whole = printed (wrote_as (under ws h e) w)

      pub whole_size : length (written ws) ≡ n
      whole_size = sym (whole.reply ∙ ap length all)

      pub whole_front : take n mid ≡ written ws
      whole_front = printed_front whole ∙ all

      pub whole_reply : Ok n ≡ text_reply ws (length out)
      unfolding fitted
      whole_reply = rw (ok, fit) (ap Ok (sym whole_size))

-- what stands behind the text cleared, the promise is kept
pub put_writes : (ws : List ℕ) {out : List ℕ} (mid : List ℕ) {last : List ℕ} {n : ℕ} (r : Result ℕ Refusal) → r ≡ text_reply ws (length out)
    → IfOk r (λ k. (take k mid ≡ written ws) × (length (written ws) ≡ k)) → length mid ≡ length out → n ≡ result_unwrap_or r 0 → last ≡ cleared n mid → Writes ws out last r
put_writes ws {out} mid r reply front kept e q =
    record {
      reply = gives converted_values reply;
      text = q ∙ ap (λ (k : ℕ). cleared k mid) e ∙ left r front ∙ ap (λ (x : Result ℕ Refusal). converted_left x (length out) (written ws)) reply;
    }
  where
    left : (r : Result ℕ Refusal) → IfOk r (λ k. (take k mid ≡ written ws) × (length (written ws) ≡ k)) → cleared (result_unwrap_or r 0) mid ≡ converted_left r (length out) (written ws)
    left (Ok k) f = cleared_padded mid (written ws) (length out) k f.0 f.1 kept
    left (Err x) f = cleared_all mid ∙ ap (λ (k : ℕ). replicate k 0) kept
