-- A BAD RECORD BEHIND A RIGHT HAND-IN is the first bad one: what stands behind its records changes nothing for them. Assumes nothing.
use mathlib.Core.Path.{◌≡◌, sym, ap, subst, ◌∙◌}
use mathlib.Core.List.{List, ◌∷◌, ◌++◌}
use Prim.Native.Nat.{ℕ, ◌<◌}
use native.Mathlib.Omega.{arith}
use lib.IntN.{ℤ}
use lib.ListN.{length, get_or, length-append, length-map, get_or-append}
use Rattle.word.specs.Edge.{Edge, F, T, to}
use Rattle.word.specs.Record.{Record, no_record}
use Rattle.diagram.specs.Level.{Level}
use Rattle.diagram.specs.Label.{Holds}
use Rattle.diagram.specs.Table.{Node}
use Rattle.diagram.specs.Claim.{node_at, Leads}
use Rattle.diagram.specs.Flat.{node_in}
use Rattle.diagram.proofs.Places.{append_right}
use Rattle.marking.specs.HandIn.{drawing_of, RightRecord, RightRoot, RightHandIn, FirstBad}
use Rattle.marking.proofs.Edges.{node_is}

module _ (ls : List Level) (xs ys : List Record) (es : List ℕ) where
  -- a record stands where it stood, and so does its node
  record_still : (n : ℕ) → n < length xs → get_or (xs ++ ys) n no_record ≡ get_or xs n no_record
  record_still n h = get_or-append xs ys no_record n h

  node_still : (n : ℕ) → n < length xs → node_at (drawing_of ls (xs ++ ys) es) n ≡ node_at (drawing_of ls xs es) n
  node_still n h = node_is ls (xs ++ ys) es n (omega (arith, length-append xs ys)) ∙ ap (node_in ls es) (record_still n h) ∙ sym (node_is ls xs es n h)

  -- an edge leads where it led
  leads_still : (i : ℕ) (e : Edge) (z : ℤ) → Leads ls (drawing_of ls xs es) i e z → Leads ls (drawing_of ls (xs ++ ys) es) i e z
  leads_still i F z l = l
  leads_still i T z l = l
  leads_still i (to n) z l =
      let h : n < length xs = rw length-map at l.0.0 in
      let e = node_still n h in
      ((omega (arith, length-map (xs ++ ys) (node_in ls es), length-append xs ys), ap (λ (x : Node). x.level) e ∙ l.0.1), subst (λ (x : Node). Holds x.lab z) (sym e) l.1)

  -- and a right record is right
  right_still : (x : Record) → RightRecord ls xs es x → RightRecord ls (xs ++ ys) es x
  right_still x r =
      record {
        above = r.above;
        below = r.below;
        filled = r.filled;
        inside = r.inside;
        child = λ j h. let c = r.child j h in record { edge = c.edge; stands = c.stands; holds = λ z b. leads_still x.level c.edge _ (c.holds z b) };
      }

pub first_behind : (ls : List Level) (a : ℤ) (xs : List Record) (y : Record) (ys : List Record) (es : List ℕ) → RightHandIn ls a xs es
    → (RightRecord ls (xs ++ y ∷ ys) es y → ⊥) → FirstBad ls a (xs ++ y ∷ ys) es (length xs)
first_behind ls a xs y ys es r bad =
    record {
      before = λ m h. let q = r.each m h in
          let e = sym (record_still ls xs (y ∷ ys) es m h) in (
            omega (arith, length-append xs (y ∷ ys)),
            record {
              few = q.few;
              root = λ z. subst (RightRoot a) e (q.root z);
              alone = subst (RightRecord ls (xs ++ y ∷ ys) es) e (right_still ls xs (y ∷ ys) es (get_or xs m no_record) q.alone);
            },
          );
      bad = λ h q. bad (subst (RightRecord ls (xs ++ y ∷ ys) es) (append_right xs (y ∷ ys) (length xs) 0 no_record (omega arith)) q.alone);
      empty = λ h. absurd (omega (arith, length-append xs (y ∷ ys)));
    }
