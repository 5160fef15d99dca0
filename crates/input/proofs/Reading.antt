-- What one read more adds to the bytes that have come. Assumes nothing.
use Rattle.std.proofs.Common.{◌≡◌, ℕ, ◌+◌, ◌≤◌, List, ◌++◌, length, take, sym, ap, ◌∙◌, subst, length-take-le}
use Rattle.std.proofs.Math.Seq.{take-append-add}
use Rattle.std.proofs.lemmas.List.{take-append-le}
use Rattle.std.specs.declared.option.Option.{Option}
use Rattle.std.specs.Io.KnownBytes.{Consumes}
use Rattle.std.proofs.KnownBytes.{Consumes-trans}

-- the bytes before `at`, and n that a read put behind them
pub Consumes-read : (a b c : Option (List ℕ)) (xs ys rest : List ℕ) (at n : ℕ) → at ≤ length xs → n ≤ length ys → Consumes a b (take at xs) → Consumes b c (take n ys)
    → Consumes a c (take (at + n) (take at xs ++ (ys ++ rest)))
Consumes-read a b c xs ys rest at n within fits before read =
    let front = take at xs in
    let long : at ≡ length front = sym (length-take-le at xs within) in
    let joined : take (at + n) (front ++ (ys ++ rest)) ≡ front ++ take n ys =
    ap (λ k. take (k + n) (front ++ (ys ++ rest))) long ∙ take-append-add front (ys ++ rest) n ∙ ap (λ l. front ++ l) (take-append-le n ys rest fits) in
    subst (Consumes a c) (sym joined) (Consumes-trans a b c front (take n ys) before read)
