-- EVERY TEXT SAYS JUST ONE THING: reading it a byte at a time finds what it says, and it says nothing else. Assumes nothing.
use mathlib.Core.Path.{◌≡◌, refl, sym, ap, subst, ◌∙◌}
use mathlib.Core.List.{List, ◌++◌, append_assoc}
use Prim.Native.Nat.{ℕ, suc, ◌≤◌, ◌<◌}
use native.Mathlib.Omega.{arith}
use lib.ListN.{take, drop, take-append-drop}
use lib.Seq.{take-take}
use Rattle.dimacs_text.specs.Text.{Legal}
use Rattle.dimacs_text.specs.Claim.{Begins, WrongAt, Verdict, words, wrong, Says}
use Rattle.dimacs_text.specs.Machine.{start, run}
use Rattle.dimacs_text.proofs.Machine.{no_wrong}
use Rattle.dimacs_text.proofs.Accepts.{legal_read}
use Rattle.dimacs_text.proofs.Sound.{read_legal}
use Rattle.dimacs_text.proofs.Viable.{wrong_place}

wrong_at : (t : List ℕ) (k : ℕ) → run start t ≡ wrong k → WrongAt t k
wrong_at t k h =
    let p = wrong_place t start k tt h in
    record {
      within = p.within;
      possible = (p.possible.0, p.possible.1, read_legal _ _ p.possible.2);
      hopeless = λ q x. p.hopeless q x.0 x.1 (legal_read _ _ x.2);
      illegal = λ ws l. no_wrong k ws (sym h ∙ legal_read t ws l);
    }

-- READING FINDS what the text says
pub run_says : (t : List ℕ) → Says t (run start t)
run_says t = go (run start t) refl
  where
    go : (v : Verdict) → run start t ≡ v → Says t v
    go (words ws) e = read_legal t ws e
    go (wrong k) e = wrong_at t k e

-- what begins a legal text, cut off sooner, begins it too
begins_less : (t : List ℕ) (j k : ℕ) → j ≤ k → Begins (take k t) → Begins (take j t)
begins_less t j k h x = (drop j (take k t) ++ x.0, x.1, subst (λ (y : List ℕ). Legal y x.1) (sym cut) x.2)
  where
    cut : take j t ++ (drop j (take k t) ++ x.0) ≡ take k t ++ x.0
    cut =
        ap (λ (y : List ℕ). y ++ (drop j (take k t) ++ x.0)) (sym (take-take j k t h))
        ∙ sym (append_assoc (take j (take k t)) (drop j (take k t)) x.0)
        ∙ ap (λ (y : List ℕ). y ++ x.0) (take-append-drop j (take k t))

no_sooner : (t : List ℕ) (j k : ℕ) → WrongAt t j → WrongAt t k → ¬ (j < k)
no_sooner t j k a b h = a.hopeless (omega (arith, b.within)) (begins_less t (suc j) k h b.possible)

-- A TEXT SAYS ONE THING
pub says_one : (t : List ℕ) (u v : Verdict) → Says t u → Says t v → u ≡ v
says_one t (words ws) (words xs) a b = sym (legal_read t ws a) ∙ legal_read t xs b
says_one t (words ws) (wrong k) a b = absurd (b.illegal ws a)
says_one t (wrong k) (words ws) a b = absurd (a.illegal ws b)
says_one t (wrong j) (wrong k) a b =
    let p = no_sooner t j k a b in
    let q = no_sooner t k j b a in
    let e : j ≡ k = omega arith in
    ap wrong e
