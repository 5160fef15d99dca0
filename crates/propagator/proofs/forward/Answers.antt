-- `propagator::forward` meets its contract. The loop's invariant: the clauses before the place are passed (`Forwards`). Assumes nothing.
use native.Mathlib.Omega.{arith}
use Rattle.propagator.proofs.Forwards.{forwards_start, forwards_less, forwards_falsified, forwards_neither, forwards_unit, forwards_done}
use Rattle.propagator.proofs.forward.Goals as goal

pub clauses-init : goal.clauses-init
clauses-init c = (omega arith, forwards_start _ _ c.requires.0 _ c.requires.1)

pub clauses-smaller-then-found : goal.clauses-smaller-then-found
clauses-smaller-then-found c =
    let i = c.clauses.invariant in
    let t = forwards_less _ _ c.requires.0 _ _ _ _ i.1 i.0 (omega arith) _ c.next-s.ensures.1 in
    omega (arith, t.0, t.1)

pub clauses-preserved-then-found : goal.clauses-preserved-then-found
clauses-preserved-then-found c =
    let i = c.clauses.invariant in
    forwards_neither _ _ c.requires.0 _ _ _ _ i.1 i.0 (omega arith) _ c.next-s.ensures.1 _ c.next-s.ensures.0 (omega arith)

pub returns-then-found-eq0 : goal.returns-then-found-eq0
returns-then-found-eq0 c =
    let i = c.clauses.invariant in
    forwards_falsified _ _ c.requires.0 _ _ _ _ i.1 i.0 (omega arith) _ c.next-s.ensures.1 _ c.next-s.ensures.0 (omega arith)

pub clauses-smaller : goal.clauses-smaller
clauses-smaller c =
    let i = c.clauses.invariant in
    let t = forwards_less _ _ c.requires.0 _ _ _ _ i.1 i.0 (omega arith) _ c.next-s.ensures.1 in
    omega (arith, t.0, t.1)

pub clauses-preserved : goal.clauses-preserved
clauses-preserved c =
    let i = c.clauses.invariant in
    forwards_unit _ _ c.requires.0 _ _ _ _ i.1 i.0 (omega arith) _ c.next-s.ensures.1 _ c.next-s.ensures.0 (λ e. omega (arith, e)) (λ e. omega (arith, e)) _ c.put.ensures

pub returns : goal.returns
returns c = rw c.changed_at.ensures (forwards_done _ _ c.requires.0 _ _ _ _ c.clauses.invariant.1 (omega arith))
