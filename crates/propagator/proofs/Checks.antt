-- THE CHECKS of the call: what input that passes them has. Assumes nothing.
use mathlib.Core.Path.{◌≡◌, refl}
use mathlib.Core.List.{List, [], ◌∷◌}
use Prim.Native.Nat.{ℕ, suc}
use lib.Dec.{eqb, leb}
use lib.ListN.{length}
use borrow.Author.Tests.{eq-eqb, eqb-true, le-leb, leb-true}
use Rattle.refusal.specs.Table.{and_then, unless, passed}
use Rattle.refusal.specs.declared.Refusal.TheVariants.{ValueByte, BufferLength}
use Rattle.refusal.proofs.Passes.{both_passed, unless_passed}
use Rattle.clause.specs.Check.{list_from}
use Rattle.tester.specs.Tested.{values_from}
use Rattle.propagation.specs.Derived.{Bytes}
use Rattle.propagator.specs.Reply.{input_checked}
use Rattle.propagator.specs.Pass.{Propagable}

values_bytes : (at : ℕ) (bs : List ℕ) → values_from 2 at bs ≡ passed → Bytes bs
unfolding values_from
values_bytes at [] e = tt
values_bytes at (b ∷ bs) e =
    let t = both_passed (unless (leb b 2) (ValueByte at)) (values_from 2 (suc at) bs) e in
    (leb-true b 2 (unless_passed (leb b 2) (ValueByte at) t.0), values_bytes (suc at) bs t.1)

-- INPUT THAT PASSES: bytes of 0 to 2, a list over them, and a buffer of their length
pub passed_is : (bs ws : List ℕ) (room : ℕ) → input_checked bs ws room ≡ passed → Propagable ws bs × (room ≡ length bs)
unfolding input_checked
passed_is bs ws room e =
    let t = both_passed (values_from 2 0 bs) (and_then (list_from (length bs) 0 0 ws) (unless (eqb room (length bs)) BufferLength)) e in
    let u = both_passed (list_from (length bs) 0 0 ws) (unless (eqb room (length bs)) BufferLength) t.1 in
    ((u.0, values_bytes 0 bs t.0), eqb-true room (length bs) (unless_passed (eqb room (length bs)) BufferLength u.1))

-- and the other way
values_pass : (at : ℕ) (bs : List ℕ) → Bytes bs → values_from 2 at bs ≡ passed
unfolding values_from
values_pass at [] h = refl
values_pass at (b ∷ bs) h = rw (le-leb b 2 h.0) (values_pass (suc at) bs h.1)

pub call_passes : (bs ws : List ℕ) (room : ℕ) → Bytes bs → list_from (length bs) 0 0 ws ≡ passed → room ≡ length bs → input_checked bs ws room ≡ passed
unfolding input_checked
call_passes bs ws room h e f = rw (values_pass 0 bs h, e, eq-eqb room (length bs) f)
