-- THE PART that a list's first word counts, by the two tests of the definition. Assumes nothing.
use Rattle.std.proofs.Common.{◌≡◌, ℕ, ◌-◌, ◌≤◌, ◌<◌, List, [], ◌∷◌, length, get_or, take, drop, refl, arith, ◌∙◌, ap, ap₂}
use lib.Seq.{take_all}
use borrow.Author.Tests.{lt-ltb, le-ltb}
use Rattle.printout_marking.specs.declared.Fault.TheVariants.{BadLength}
use Rattle.printout_marking.specs.Printed.{counted_answer}
use Rattle.printout_marking.specs.Parts.{PartOf, NoPart}

-- the words behind the first
abbrev rest : List ℕ → List ℕ
rest ws = take (length ws - 1) (drop 1 ws)

rest_is : (n : ℕ) (xs : List ℕ) → rest (n ∷ xs) ≡ xs
rest_is n xs = take_all (length (n ∷ xs) - 1) xs (omega arith)

-- without a first word
pub part_none : (ws : List ℕ) → length ws < 1 → NoPart ws BadLength
unfolding counted_answer
part_none [] h answer = refl
part_none (n ∷ xs) h answer = absurd (omega arith)

-- where it counts more words than follow
pub part_short : (ws : List ℕ) → 1 ≤ length ws → length (rest ws) < get_or ws 0 0 → NoPart ws BadLength
unfolding counted_answer
part_short [] s h answer = absurd (omega arith)
part_short (n ∷ xs) s h answer = rw (lt-ltb (length xs) n (rw (rest_is n xs) at h)) refl

-- and where these follow
pub part_whole : (ws a b : List ℕ) → 1 ≤ length ws → get_or ws 0 0 ≤ length (rest ws) → a ≡ take (get_or ws 0 0) (rest ws) → b ≡ drop (get_or ws 0 0) (rest ws) → PartOf ws a b
unfolding counted_answer
part_whole [] a b s h e f answer = absurd (omega arith)
part_whole (n ∷ xs) a b s h e f answer =
    rw (le-ltb (length xs) n (rw (rest_is n xs) at h))
    (ap₂ answer (e ∙ ap (take n) (rest_is n xs)) (f ∙ ap (drop n) (rest_is n xs)))
