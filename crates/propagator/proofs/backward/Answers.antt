-- `propagator::backward` meets its contract. The loop's invariant: the clauses behind the place are passed (`Backwards`). Assumes nothing.
use native.Mathlib.Omega.{arith}
use Prim.Native.Nat.{ℕ, ◌-◌}
use mathlib.Core.Path.{ap}
use Rattle.propagator.proofs.Backwards.{backwards_start, backwards_within, backwards_less, backwards_look, backwards_falsified, backwards_neither, backwards_unit, backwards_done}
use Rattle.propagator.proofs.backward.Goals as goal

pub clauses-init : goal.clauses-init
clauses-init c = (omega arith, backwards_start _ _ c.requires.0 _ c.requires.1)

pub offset_bounds-words-at : goal.offset_bounds-words-at
offset_bounds-words-at c = omega (arith, backwards_within _ _ c.requires.0 _ _ _ _ c.clauses.invariant.1)

pub bounds-words-at : goal.bounds-words-at
bounds-words-at c = omega (arith, backwards_within _ _ c.requires.0 _ _ _ _ c.clauses.invariant.1)

pub overflow_sub-at-in-clauses : goal.overflow_sub-at-in-clauses
overflow_sub-at-in-clauses c =
    let i = c.clauses.invariant in
    omega (arith, c.payload_of.ensures, backwards_less _ _ c.requires.0 _ _ _ _ i.1 i.0 (omega arith))

pub next-s-requires : goal.next-s-requires
next-s-requires c =
    let i = c.clauses.invariant in
    backwards_look _ _ c.requires.0 _ _ _ _ i.1 i.0 (omega arith) _ (ap (λ (x : ℕ). c.clauses.at - 1 - x) c.payload_of.ensures)

pub clauses-preserved-then-found : goal.clauses-preserved-then-found
clauses-preserved-then-found c =
    let i = c.clauses.invariant in
    backwards_neither _ _ c.requires.0 _ _ _ _ i.1 i.0 (omega arith) _ (ap (λ (x : ℕ). c.clauses.at - 1 - x) c.payload_of.ensures)
    _ c.next-s.ensures.0 (omega arith)

pub returns-then-found-eq0 : goal.returns-then-found-eq0
returns-then-found-eq0 c =
    let i = c.clauses.invariant in
    backwards_falsified _ _ c.requires.0 _ _ _ _ i.1 i.0 (omega arith) _ (ap (λ (x : ℕ). c.clauses.at - 1 - x) c.payload_of.ensures)
    _ c.next-s.ensures.0 (omega arith)

pub clauses-preserved : goal.clauses-preserved
clauses-preserved c =
    let i = c.clauses.invariant in
    backwards_unit _ _ c.requires.0 _ _ _ _ i.1 i.0 (omega arith) _ (ap (λ (x : ℕ). c.clauses.at - 1 - x) c.payload_of.ensures)
    _ c.next-s.ensures.0 (λ e. omega (arith, e)) (λ e. omega (arith, e)) _ c.put.ensures

pub returns : goal.returns
returns c = rw c.changed_at.ensures (backwards_done _ _ c.requires.0 _ _ _ _ c.clauses.invariant.1 (omega arith))
