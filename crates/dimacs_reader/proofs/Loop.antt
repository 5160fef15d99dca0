-- THE LOOP OVER THE BYTES: what was read so far and what is still to be read make up the whole text's verdict, so each way out gives what the text says.
-- Assumes nothing.
use mathlib.Core.Path.{◌≡◌, refl, sym, ap, subst, ◌∙◌}
use mathlib.Core.Bool.{Bool, true, false, cond}
use mathlib.Core.List.{List, [], ◌∷◌, ◌++◌, append_assoc, append-nil}
use Prim.Native.Nat.{ℕ, suc, ◌+◌, ◌≤◌, ◌<◌}
use native.Mathlib.Omega.{arith}
use native.Mathlib.Numerals.{add-one}
use lib.ListN.{length, get_or, take, drop, set, replicate, length-append, length-set, drop_of_length-le}
use lib.Seq.{drop-cons, take-suc-set}
use Rattle.word.specs.Padded.{cleared}
use Rattle.word.proofs.Cleared.{cleared_padded, cleared_all}
use Rattle.word.proofs.Giving.{gives}
use Rattle.refusal.specs.declared.Refusal.{Refusal}
use Rattle.refusal.specs.declared.Refusal.TheVariants.{NoRoom, NotDimacs}
use Rattle.std.specs.Prelude.{Result, Ok, Err}
use Rattle.dimacs_text.specs.Claim.{Verdict, words, wrong, Says}
use Rattle.dimacs_text.specs.Reply.{converted_values, words_reply, words_said, converted_left}
use Rattle.dimacs_text.specs.Machine.{State, Next, bad, on, put, step, final, one_later, with_word, go_on, run, start, GoodState}
use Rattle.dimacs_text.proofs.Fit.{Keeps, keeps}
use Rattle.dimacs_text.proofs.Verdicts.{run_says}
use Rattle.dimacs_text.proofs.Fitted.{fitted_in, fitted_out, left_as}
use Rattle.dimacs_reader.specs.Reads.{Reads}

-- what is said of the whole, where i bytes said the words acc and the rest says v
abbrev from : List ℕ → ℕ → Verdict → Verdict
from acc i (words ws) = words (acc ++ ws)
from acc i (wrong k) = wrong (i + k)

-- i bytes are read; they said n words, as many of which as find room stand in `out`
pub record Mid (t first out : List ℕ) (s : State) (n i : ℕ) : Type 0 where
  pub size : length out ≡ length first
  pub within : i ≤ length t
  pub good : GoodState s
  pub acc : List ℕ
  pub so_far : run start t ≡ from acc i (run s (drop i t))
  pub many : n ≡ length acc
  pub few : n ≤ i
  pub kept : n ≤ length out → take n out ≡ acc

pub mid_as : {t first a b : List ℕ} {s u : State} {n k i : ℕ} → a ≡ b → s ≡ u → n ≡ k → Mid t first b u k i → Mid t first a s n i
mid_as {t} {first} {b} {s} {u} {n} {i} p q r m =
    subst (λ (x : List ℕ). Mid t first x s n i) (sym p) (subst (λ (x : State). Mid t first b x n i) (sym q) (subst (λ (x : ℕ). Mid t first b u x i) (sym r) m))

-- ---- One byte

from_later : (acc : List ℕ) (i : ℕ) (v : Verdict) → from acc i (one_later v) ≡ from acc (i + 1) v
from_later acc i (words ws) = refl
from_later acc i (wrong k) = ap wrong (omega arith)

from_word : (acc : List ℕ) (i w : ℕ) (v : Verdict) → from acc i (with_word w (one_later v)) ≡ from (acc ++ (w ∷ [])) (i + 1) v
from_word acc i w (words ws) = ap words (sym (append_assoc acc (w ∷ []) ws))
from_word acc i w (wrong k) = ap wrong (omega arith)

from_none : (v : Verdict) → v ≡ from [] 0 v
from_none (words ws) = refl
from_none (wrong k) = ap wrong (omega arith)

pub mid_start : (t out : List ℕ) (s : State) → s ≡ start → Mid t out out s 0 0
mid_start t out s e =
    subst (λ (x : State). Mid t out out x 0 0) (sym e)
    (record { size = refl; within = omega arith; good = tt; acc = []; so_far = from_none (run start t); many = refl; few = omega arith; kept = λ h. refl })

module _ {t first out : List ℕ} {s : State} {n i : ℕ} (m : Mid t first out s n i) where
  module _ (h : i < length t) where
    turn : (x : Next) → x ≡ step s (get_or t i 0) → run s (drop i t) ≡ go_on x (λ s'. run s' (drop (i + 1) t))
    unfolding run
    turn x e =
        ap (run s) (drop-cons t i 0 h)
        ∙ ap (λ (y : Next). go_on y (λ s'. run s' (drop (suc i) t))) (sym e)
        ∙ ap (λ (j : ℕ). go_on x (λ s'. run s' (drop j t))) (sym (add-one i))

    good_after : (x : Next) → x ≡ step s (get_or t i 0) → Keeps x
    good_after x e = subst Keeps (sym e) (keeps s (get_or t i 0) m.good)

    pub mid_on : (s' : State) → on s' ≡ step s (get_or t i 0) → Mid t first out s' n (i + 1)
    mid_on s' e =
        record {
          size = m.size;
          within = omega arith;
          good = good_after (on s') e;
          acc = m.acc;
          so_far = m.so_far ∙ ap (from m.acc i) (turn (on s') e) ∙ from_later m.acc i (run s' (drop (i + 1) t));
          many = m.many;
          few = omega (arith, m.few);
          kept = m.kept;
        }

    pub mid_put : (s' : State) (w : ℕ) → put s' w ≡ step s (get_or t i 0) → Mid t first (set out n w) s' (n + 1) (i + 1)
    mid_put s' w e =
        record {
          size = length-set out n w ∙ m.size;
          within = omega arith;
          good = (good_after (put s' w) e).0;
          acc = m.acc ++ (w ∷ []);
          so_far = m.so_far ∙ ap (from m.acc i) (turn (put s' w) e) ∙ from_word m.acc i w (run s' (drop (i + 1) t));
          many = omega (arith, length-append m.acc (w ∷ []), m.many);
          few = omega (arith, m.few);
          kept = λ k.
              let q : n < length out = omega (arith, length-set out n w) in
              ap (λ (j : ℕ). take j (set out n w)) (add-one n) ∙ take-suc-set out n w q ∙ ap (λ (x : List ℕ). x ++ (w ∷ [])) (m.kept (omega arith));
        }

  -- ---- The ways out

  reads_as : (v : Verdict) → run start t ≡ v → (last : List ℕ) (r : Result ℕ Refusal) → words_reply v (length first) ≡ r → last ≡ converted_left r (length first) (words_said v)
      → Reads t first last r
  reads_as v e last r p q =
      record {
        verdict = v;
        says = subst (Says t) e (run_says t);
        reply = gives converted_values (sym p);
        list = q ∙ left_as (words_reply v (length first)) r (length first) (words_said v) p;
      }

  zeros : {last : List ℕ} → last ≡ cleared 0 out → last ≡ replicate (length first) 0
  zeros q = q ∙ cleared_all out ∙ ap (λ (k : ℕ). replicate k 0) m.size

  pub exit_bad : i < length t → bad ≡ step s (get_or t i 0) → {last : List ℕ} → last ≡ cleared 0 out → Reads t first last (Err (NotDimacs i))
  exit_bad h e {last} q =
      reads_as (wrong i) (m.so_far ∙ ap (from m.acc i) (turn h bad e) ∙ ap wrong (omega arith)) last (Err (NotDimacs i)) refl (zeros q)

  module _ (h : length t ≤ i) where
    ended : (b : Bool) → b ≡ final s → run start t ≡ from m.acc i (cond b (words []) (wrong 0))
    unfolding run
    ended b e =
        m.so_far
        ∙ ap (λ (x : List ℕ). from m.acc i (run s x)) (drop_of_length-le t h)
        ∙ ap (λ (q : Bool). from m.acc i (cond q (words []) (wrong 0))) (sym e)

    pub exit_short : false ≡ final s → {last : List ℕ} → last ≡ cleared 0 out → Reads t first last (Err (NotDimacs (length t)))
    exit_short e {last} q =
        reads_as (wrong (length t)) (ended false e ∙ ap wrong (omega (arith, m.within))) last (Err (NotDimacs (length t))) refl (zeros q)

    whole : true ≡ final s → run start t ≡ words m.acc
    whole e = ended true e ∙ ap words (append-nil m.acc)

    pub exit_room : true ≡ final s → length out < n → {last : List ℕ} → last ≡ cleared 0 out → Reads t first last (Err NoRoom)
    exit_room e k {last} q =
        reads_as (words m.acc) (whole e) last (Err NoRoom) (fitted_out m.acc (length first) (omega (arith, m.size, m.many))) (zeros q)

    pub exit_all : true ≡ final s → n ≤ length out → {last : List ℕ} → last ≡ cleared n out → Reads t first last (Ok n)
    exit_all e k {last} q =
        reads_as (words m.acc) (whole e) last (Ok n)
        (fitted_in m.acc (length first) (omega (arith, m.size, m.many)) ∙ ap Ok (sym m.many))
        (q ∙ cleared_padded out m.acc (length first) n (m.kept k) (sym m.many) m.size)
