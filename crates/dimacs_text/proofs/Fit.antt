-- The states that a reader can be in: their numbers keep to the limits. Assumes nothing.
use mathlib.Core.Path.{◌≡◌}
use mathlib.Core.Bool.{Bool, true, false, cond, ◌&&◌}
use Prim.Native.Nat.{ℕ, suc, ◌+◌, ◌-◌, ◌*◌, ◌≤◌, ◌<◌}
use native.Mathlib.Omega.{arith}
use lib.Dec.{eqb, leb}
use borrow.Author.Tests.{leb-true, leb-false, eqb-false}
use Rattle.word.specs.Word.{last_boolean, last_count, literal_word, end_word}
use Rattle.word.proofs.Tests.{between_is}
use Rattle.dimacs_text.specs.Machine.{GoodSpot, GoodSlot, GoodOpen, GoodRole, GoodState, Count, count, Spot, before, after, Slot, after_p, after_cnf, after_first, Role, first, second, literal, State, gap, comment, seen_p, seen_c, seen_cn, seen_cnf, spaces, num, minus, closed, Next, bad, on, put, blank?, space?, digit?, limit, lead, begin, opens, after_digits, step}
use Rattle.dimacs_text.proofs.Machine.{cond_elim}

-- ---- Steps keep to the limits, and their words fit
abbrev pub Keeps : Next → Type 0
Keeps bad = Unit
Keeps (on s) = GoodState s
Keeps (put s w) = GoodState s × (w < 4294967296)

word_fits : (says : Bool) (v : ℕ) → v ≤ last_boolean → literal_word says v < 4294967296
word_fits true v h = omega arith
word_fits false v h = omega arith

digit_small : (b : ℕ) → digit? b ≡ true → b - 48 ≤ 9
digit_small b e = omega (arith, (between_is 48 b 57 e).1)

keep_lead : (w : Count) (says : Bool) (b : ℕ) → GoodOpen w → Keeps (lead w says b)
keep_lead w says b g =
    cond_elim Keeps (leb 49 b && leb b 57) _ bad
    (λ e. cond_elim Keeps (leb (b - 48) w.most) (on (num (literal w says) (b - 48))) bad (λ k. (g, leb-true _ _ k)) (λ k. tt))
    (λ e. tt)

keep_begin : (p : Spot) (b : ℕ) → GoodSpot p → Keeps (begin p b)
keep_begin before b g = cond_elim Keeps (eqb b 112) (on seen_p) bad (λ e. tt) (λ e. tt)
keep_begin (after w) b g =
    cond_elim Keeps (eqb w.left 0) bad _ (λ e. tt) λ e₁.
    cond_elim Keeps (eqb b 48) (put (closed (count w.most (w.left - 1) 0)) (end_word w.literals)) _ (λ e. ((g.0, omega arith), omega (arith, g.1))) λ e₂.
    cond_elim Keeps (leb last_count w.literals) bad _ (λ e. tt) λ e₃.
    let o : GoodOpen w = (g.0, leb-false _ _ e₃) in
    cond_elim Keeps (eqb b 45) (cond (eqb w.most 0) bad (on (minus w))) (lead w true b)
    (λ e. cond_elim Keeps (eqb w.most 0) bad (on (minus w)) (λ k. tt) (λ k. (o, pos k)))
    (λ e. keep_lead w true b o)
  where
    pos : eqb w.most 0 ≡ false → 0 < w.most
    pos e = let z = eqb-false w.most 0 e in omega arith

keep_opens : (k : Slot) (b : ℕ) → GoodSlot k → Keeps (opens k b)
keep_opens after_p b g = cond_elim Keeps (eqb b 99) (on seen_c) bad (λ e. tt) (λ e. tt)
keep_opens after_cnf b g = cond_elim Keeps (digit? b) (on (num first (b - 48))) bad (λ e. omega (arith, digit_small b e)) (λ e. tt)
keep_opens (after_first n) b g = cond_elim Keeps (digit? b) (on (num (second n) (b - 48))) bad (λ e. (g, omega (arith, digit_small b e))) (λ e. tt)

keep_ends : (r : Role) (v b : ℕ) → GoodRole r v → Keeps (after_digits r v b)
keep_ends first v b g = cond_elim Keeps (space? b) (on (spaces (after_first v))) bad (λ e. g) (λ e. tt)
keep_ends (second n) v b g = cond_elim Keeps (blank? b) (on (gap (after (count n v 0)) (eqb b 10))) bad (λ e. (g.0, omega arith)) (λ e. tt)
keep_ends (literal w says) v b g =
    cond_elim Keeps (blank? b) (put (gap (after (count w.most w.left (suc w.literals))) (eqb b 10)) (literal_word says v)) bad
    (λ e. ((g.0.0, g.0.1), word_fits says v (omega (arith, g.0.0, g.1))))
    (λ e. tt)

grown : (r : Role) (v u : ℕ) → GoodRole r v → u ≤ limit r → GoodRole r u
grown first v u g h = h
grown (second n) v u g h = (g.0, h)
grown (literal w says) v u g h = (g.0, h)

pub keeps : (s : State) (b : ℕ) → GoodState s → Keeps (step s b)
unfolding step
keeps (gap p f) b g = cond_elim Keeps (blank? b) (on (gap p (eqb b 10))) _ (λ e. g) (λ e. cond_elim Keeps (f && eqb b 99) (on (comment p)) (begin p b) (λ k. g) (λ k. keep_begin p b g))
keeps (comment p) b g = cond_elim Keeps (eqb b 10) (on (gap p true)) (on (comment p)) (λ e. g) (λ e. g)
keeps seen_p b g = cond_elim Keeps (space? b) (on (spaces after_p)) bad (λ e. tt) (λ e. tt)
keeps seen_c b g = cond_elim Keeps (eqb b 110) (on seen_cn) bad (λ e. tt) (λ e. tt)
keeps seen_cn b g = cond_elim Keeps (eqb b 102) (on seen_cnf) bad (λ e. tt) (λ e. tt)
keeps seen_cnf b g = cond_elim Keeps (space? b) (on (spaces after_cnf)) bad (λ e. tt) (λ e. tt)
keeps (spaces k) b g = cond_elim Keeps (space? b) (on (spaces k)) (opens k b) (λ e. g) (λ e. keep_opens k b g)
keeps (num r v) b g =
    cond_elim Keeps (digit? b) _ (after_digits r v b)
    (λ e. cond_elim Keeps (eqb v 0) bad _ (λ k. tt) (λ k. cond_elim Keeps (leb (10 * v + (b - 48)) (limit r)) (on (num r (10 * v + (b - 48)))) bad (λ h. grown r v _ g (leb-true _ _ h)) (λ h. tt)))
    (λ e. keep_ends r v b g)
keeps (minus w) b g = keep_lead w false b g.0
keeps (closed w) b g = cond_elim Keeps (blank? b) (on (gap (after w) (eqb b 10))) bad (λ e. g) (λ e. tt)
