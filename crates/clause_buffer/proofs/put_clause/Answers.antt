-- `clause_buffer::put_clause` meets its contract: each literal is stored behind those that are in, and then the end word. Assumes nothing.
use mathlib.Core.Path.{refl}
use mathlib.Core.List.{[], ◌∷◌, ◌++◌}
use Prim.Native.Nat.{◌+◌}
use native.Mathlib.Numerals.{add-one}
use native.Mathlib.Omega.{arith}
use lib.ListN.{get_or, drop}
use lib.Seq.{drop-cons}
use Rattle.word.specs.Word.{end_word}
use Rattle.word.proofs.Kept.{Parts}
use Rattle.clause_buffer.proofs.Writing.{stored_words, words_left_less, words_left_room}
use Rattle.clause_buffer.proofs.put_clause.Goals as goal

pub loop-k-preserved : goal.loop-k-preserved
loop-k-preserved g c =
    let k = c.loop-k.k in
    let at = c.args.at + k in
    let w = get_or c.args.literals k 0 in
    let e : Parts (drop k c.args.literals ++ (end_word g.row.N ∷ [])) (w ∷ []) (drop (k + 1) c.args.literals ++ (end_word g.row.N ∷ [])) =
    record { joined = rw (drop-cons c.args.literals k 0 (omega arith), add-one k) refl } in
    words_left_less e c.loop-k.invariant (stored_words (w ∷ []) at (c.args.at + (k + 1)) c.loop-k.out _ (words_left_room e c.loop-k.invariant) (omega arith) refl)
