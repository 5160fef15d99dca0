-- THE BUILT TABLE inside the lent one: the diagram's records stand at its front, whatever stands behind the capacity. Assumes nothing.
use Rattle.refusal.specs.declared.Refusal.{Refusal}
use Rattle.filler.specs.declared.Counts.{Counts}
use Rattle.std.proofs.Common.{Result}
use mathlib.Core.Path.{◌≡◌, refl, sym, ap, ap₂, subst, ◌∙◌}
use mathlib.Core.List.{List, [], ◌++◌, map}
use Prim.Native.Nat.{ℕ, ◌*◌, ◌/◌, ◌≤◌, ◌<◌}
use native.Mathlib.Omega.{arith}
use lib.IntN.{ℤ, pos, negsuc}
use lib.ListN.{length, take, drop, length-append, length-take}
use Rattle.word.specs.Record.{record_words}
use Rattle.word.specs.Edge.{Edge, F, T, to}
use Rattle.refusal.specs.declared.Refusal.TheVariants.{TooManyNodes}
use Rattle.diagram.specs.Level.{R}
use Rattle.diagram.specs.Table.{table, root}
use Rattle.diagram.specs.Flat.{bare_of, table_words}
use Rattle.encoding.specs.Boolean.{orders}
use Rattle.encoding.specs.Pattern.{clause_words}
use Rattle.limits.specs.declared.Limits.{Limits}
use Rattle.limits.specs.Limits.{node_limit}
use Rattle.constraint.specs.Lent.{levels_of}
use Rattle.builder.specs.Built.{DiagramBuilt}
use Rattle.constraint_bound.specs.declared.Bound.{Bound}
use Rattle.constraint_bound.specs.declared.Bound.TheVariants.{Natural, Negative}
use Rattle.constraint_bound.specs.Bound.{bound_of}
use Rattle.diagram.specs.Constraint.{Constraint}
use Rattle.encoder_levels.specs.Reply.{capacity, counts_within}
use Rattle.filler.specs.Filled.{nodes_for, root_for, constraint_of, Tabled}
use Rattle.encoder_levels.specs.Passes.{Cleared, left_in, Answered}
use Rattle.diagram.proofs.Rooted.{root_f, root_t, root_to}
use Rattle.filler.proofs.Lists.{labelled_append}
use Rattle.encoder_levels.proofs.Answers.{refuse_6, refused_answer}

-- the part of the table that may be filled
pub part_length : (l : Limits) (t : List ℕ) → capacity l (length t) * record_words ≡ length (take (capacity l (length t) * record_words) t)
part_length l t = omega (arith, length-take (capacity l (length t) * record_words) t)

module _ (cs ds : List ℕ) (D : ℕ) (is : D ≡ orders (levels_of cs ds)) where
  -- no nodes, and a root that is decided,
  tabled_none : (a : ℤ) (e : Edge) (t : List ℕ) → (root (levels_of cs ds) a ≡ e) × (table (levels_of cs ds) a ≡ []) → Tabled (constraint_of cs ds a) D e t 0
  tabled_none a e t r =
      record {
        booleans = is;
        root = sym r.0;
        few = omega arith;
        room = omega arith;
        counted = ap length (sym r.1);
        records = ap (map bare_of) (sym r.1);
      }

  -- below 0,
  pub tabled_f : (z : ℕ) (t : List ℕ) → Tabled (constraint_of cs ds (negsuc z)) D F t 0
  tabled_f z t = tabled_none (negsuc z) F t (root_f (levels_of cs ds) z)

  -- or from the greatest sum on
  pub tabled_t : (a : ℕ) (t : List ℕ) → R (levels_of cs ds) ≤ a → Tabled (constraint_of cs ds (pos a)) D T t 0
  tabled_t a t h = tabled_none (pos a) T t (root_t (levels_of cs ds) a h)

  -- an undecided bound
  pub tabled_node : (l : Limits) (a : ℕ) (t t' : List ℕ) (k n : ℕ) → k ≡ capacity l (length t) → DiagramBuilt (levels_of cs ds) a (take (k * record_words) t) t' n
      → Tabled (constraint_of cs ds (pos a)) D (to 0) (t' ++ drop (k * record_words) t) n
  tabled_node l a t t' k n e W =
      let long = W.flat.long in
      let m = W.flat.room in
      record {
        booleans = is;
        root = sym (root_to (levels_of cs ds) a W.undecided);
        few = omega (arith, length-take (k * record_words) t);
        room = omega (arith, length-append t' (drop (k * record_words) t));
        counted = W.count;
        records = labelled_append t' (drop (k * record_words) t) n m ∙ W.records;
      }

-- ---- What is drawn, for a bound by any name

-- a table within the limit
abbrev pub TabledWithin : Limits → List ℕ → List ℕ → ℤ → Edge → List ℕ → ℕ → Type 0
TabledWithin l cs ds z e t n = (n ≤ node_limit l) × Tabled (constraint_of cs ds z) (orders (levels_of cs ds)) e t n

within_as : (l : Limits) (cs ds : List ℕ) (z y : ℤ) (e : Edge) (t : List ℕ) (n : ℕ) → z ≡ y → TabledWithin l cs ds y e t n → TabledWithin l cs ds z e t n
within_as l cs ds z y e t n is p = subst (λ (x : ℤ). TabledWithin l cs ds x e t n) (sym is) p

module _ (l : Limits) (cs ds : List ℕ) (z : ℤ) where
  -- below 0,
  pub drawn_f : (y : ℕ) (t : List ℕ) → z ≡ negsuc y → TabledWithin l cs ds z F t 0
  drawn_f y t is = within_as l cs ds z (negsuc y) F t 0 is (omega arith, tabled_f cs ds (orders (levels_of cs ds)) refl y t)

  -- from the greatest sum on,
  pub drawn_t : (a : ℕ) (t : List ℕ) → z ≡ pos a → R (levels_of cs ds) ≤ a → TabledWithin l cs ds z T t 0
  drawn_t a t is h = within_as l cs ds z (pos a) T t 0 is (omega arith, tabled_t cs ds (orders (levels_of cs ds)) refl a t h)

  -- and an undecided one, whose nodes find room within the capacity,
  module _ (a : ℕ) (is : z ≡ pos a) (t : List ℕ) (k : ℕ) (e : k ≡ capacity l (length t)) where
    pub drawn_node : (t' : List ℕ) (n : ℕ) → DiagramBuilt (levels_of cs ds) a (take (k * record_words) t) t' n → TabledWithin l cs ds z (to 0) (t' ++ drop (k * record_words) t) n
    drawn_node t' n W =
        let long = W.flat.long in
        let m = W.flat.room in
        within_as l cs ds z (pos a) (to 0) (t' ++ drop (k * record_words) t) n is
        (omega (arith, length-take (k * record_words) t), tabled_node cs ds (orders (levels_of cs ds)) refl l a t t' k n e W)

    -- or do not
    pub drawn_full : length (take (k * record_words) t) / record_words < length (table (levels_of cs ds) (pos a)) → capacity l (length t) < length (nodes_for (constraint_of cs ds z))
    drawn_full h =
        subst (λ (x : ℤ). capacity l (length t) < length (nodes_for (constraint_of cs ds x))) (sym is) (omega (arith, length-take (k * record_words) t))

-- ---- From there to the answer

-- every bound is that of some number
pub bound_of_some : (b : Bound) → (a : ℤ) × (b ≡ bound_of a)
bound_of_some (Natural n) = (pos n, refl)
bound_of_some Negative = (negsuc 0, refl)

-- a built table, its Booleans counted by another name
pub recounted : (c : Constraint) {D n : ℕ} (e : Edge) (t : List ℕ) (count : ℕ) → D ≡ n → Tabled c n e t count → Tabled c D e t count
recounted c e t count is B = subst (λ (m : ℕ). Tabled c m e t count) (sym is) B

-- of the table and the clause buffer an answer depends on the lengths alone
pub same_answer : (l : Limits) (cs ds : List ℕ) (a : ℤ) (t u e w v t' e' w' : List ℕ) (r : Result Counts Refusal) → length u ≡ length t → length v ≡ length w → Answered l (constraint_of cs ds a) u e v t' e' w' r
    → Answered l (constraint_of cs ds a) t e w t' e' w' r
same_answer l cs ds a t u e w v t' e' w' r h m A =
    record {
      reply = A.reply ∙ ap₂ (λ (n k : ℕ). counts_within l (constraint_of cs ds a) n (length e) k) h m;
      table = A.table ∙ ap (λ (n : ℕ). left_in r n (table_words (nodes_for (constraint_of cs ds a)))) h;
      edges = A.edges;
      clauses = A.clauses ∙ ap (λ (n : ℕ). left_in r n (clause_words (levels_of cs ds) (root_for (constraint_of cs ds a)) (nodes_for (constraint_of cs ds a)))) m;
    }

-- more nodes than the capacity
pub full_answer : (l : Limits) (cs ds : List ℕ) (a : ℤ) (t u e w v t' e' w' : List ℕ) (r : Result Counts Refusal) → capacity l (length t) < length (nodes_for (constraint_of cs ds a)) → length u ≡ length t
    → length v ≡ length w → Cleared TooManyNodes u e v t' e' w' r → Answered l (constraint_of cs ds a) t e w t' e' w' r
full_answer l cs ds a t u e w v t' e' w' r h n m C =
    same_answer l cs ds a t u e w v t' e' w' r n m
    (refused_answer l (constraint_of cs ds a) TooManyNodes u e v t' e' w' r
    (refuse_6 l (constraint_of cs ds a) (length u) (length e) (length v) (omega (arith, h, n))) C)
