-- WHAT BYTES THAT ARE CLOSED under unit clauses say along a drawing: the order Booleans keep their order, and of a node, its child and the order Boolean
-- between them two tell the third. Assumes nothing.
use mathlib.Core.Path.{◌≡◌, refl, ap, subst, ◌∙◌}
use mathlib.Core.Logic.{inl, inr, ⊎_elim}
use mathlib.Core.List.{List, [], ◌∷◌, ◌++◌}
use Prim.Native.Nat.{ℕ, zero, suc, ◌+◌, ◌-◌, ◌≤◌, ◌<◌}
use native.Mathlib.Nat.{not-suc-le-zero}
use native.Mathlib.Omega.{arith}
use lib.ListN.{length, get_or}
use Rattle.word.specs.Edge.{Edge, F, edge_boolean}
use Rattle.diagram.specs.Level.{Level}
use Rattle.diagram.specs.Table.{Node}
use Rattle.diagram.specs.Claim.{node_at}
use Rattle.clause.specs.Meaning.{Literal, Clause}
use Rattle.encoding.specs.Boolean.{orders, orders_before}
use Rattle.encoding.specs.Pattern.{yes_of, not_of, order_of, orders_of, units_of, children_of, node_of, nodes_of, pattern}
use Rattle.propagation.proofs.Literals.{opposite_same}
use Rattle.propagation.specs.Derived.{byte, opposite, HasLiteral, UnitClosed}

-- each Boolean's byte, and the literals that it makes true
abbrev pub TrueBy : (ℕ → ℕ) → Literal → Type 0
TrueBy p l = p l.of ≡ byte l.says

-- a clause is closed, and so are all of a list
abbrev ClauseClosed : (ℕ → ℕ) → Clause → Type 0
ClauseClosed p c = (l : Literal) → HasLiteral c l → ((k : Literal) → HasLiteral c k → ¬ (k ≡ l) → TrueBy p (opposite k)) → TrueBy p l

abbrev ClausesClosed : (ℕ → ℕ) → List Clause → Type 0
ClausesClosed p [] = Unit {0}
ClausesClosed p (c ∷ cs) = ClauseClosed p c × ClausesClosed p cs

closed_each : (p : ℕ → ℕ) (cs : List Clause) → UnitClosed cs (TrueBy p) → ClausesClosed p cs
closed_each p [] f = tt
closed_each p (c ∷ cs) f = (f c (inl refl), closed_each p cs (λ d m. f d (inr m)))

each_append : (p : ℕ → ℕ) (cs ds : List Clause) → ClausesClosed p (cs ++ ds) → ClausesClosed p cs × ClausesClosed p ds
each_append p [] ds c = (tt, c)
each_append p (x ∷ cs) ds c = let t = each_append p cs ds c.1 in ((c.0, t.0), t.1)

-- ---- Clauses of one, two and three literals

false_by : (p : ℕ → ℕ) (l : Literal) → TrueBy p (opposite l) → (k : Literal) → k ≡ l → TrueBy p (opposite k)
false_by p l r k e = opposite_same (TrueBy p) k l e r

only : (p : ℕ → ℕ) (l : Literal) → ClauseClosed p (l ∷ []) → TrueBy p l
only p l f = f l (inl refl) (λ k m n. ⊎_elim (λ q. absurd (n q)) (λ x. absurd x) m)

two : (p : ℕ → ℕ) (a b : ℕ) → ClauseClosed p (not_of a ∷ yes_of b ∷ []) → (p a ≡ 1 → p b ≡ 1) × (p b ≡ 0 → p a ≡ 0)
two p a b f = (
  λ e. f (yes_of b) (inr (inl refl)) (λ k m n. ⊎_elim (false_by p (not_of a) e k) (⊎_elim (λ q. absurd (n q)) (λ x. absurd x)) m),
  λ e. f (not_of a) (inl refl) (λ k m n. ⊎_elim (λ q. absurd (n q)) (⊎_elim (false_by p (yes_of b) e k) (λ x. absurd x)) m),
)

three : (p : ℕ → ℕ) (a b c : ℕ) → ClauseClosed p (not_of a ∷ yes_of b ∷ yes_of c ∷ [])
    → (p a ≡ 1 → p b ≡ 0 → p c ≡ 1) × (p c ≡ 0 → p b ≡ 0 → p a ≡ 0) × (p a ≡ 1 → p c ≡ 0 → p b ≡ 1)
three p a b c f = (
  λ e g. f (yes_of c) (inr (inr (inl refl)))
      (λ k m n. ⊎_elim (false_by p (not_of a) e k) (⊎_elim (false_by p (yes_of b) g k) (⊎_elim (λ q. absurd (n q)) (λ x. absurd x))) m),
  λ e g. f (not_of a) (inl refl)
      (λ k m n. ⊎_elim (λ q. absurd (n q)) (⊎_elim (false_by p (yes_of b) g k) (⊎_elim (false_by p (yes_of c) e k) (λ x. absurd x))) m),
  λ e g. f (yes_of b) (inr (inl refl))
      (λ k m n. ⊎_elim (false_by p (not_of a) e k) (⊎_elim (λ q. absurd (n q)) (⊎_elim (false_by p (yes_of c) g k) (λ x. absurd x))) m),
)

-- ---- The groups

-- the order rule, of what is settled: true goes up, false goes down
abbrev pub Kept : (ℕ → ℕ) → ℕ → ℕ → Type 0
Kept p b d = (j : ℕ) → 1 ≤ j → j < d → (p (b + j) ≡ 1 → p (b + suc j) ≡ 1) × (p (b + suc j) ≡ 0 → p (b + j) ≡ 0)

abbrev pub AllKept : (ℕ → ℕ) → ℕ → List Level → Type 0
AllKept p b [] = Unit {0}
AllKept p b (l ∷ ls) = Kept p b l.dom × AllKept p (b + l.dom) ls

order_kept : (p : ℕ → ℕ) (b n : ℕ) → ClausesClosed p (order_of b n) → (k : ℕ) → k < n → (p (b + k) ≡ 1 → p (suc (b + k)) ≡ 1) × (p (suc (b + k)) ≡ 0 → p (b + k) ≡ 0)
order_kept p b zero c k h = absurd (not-suc-le-zero h)
order_kept p b (suc n) c zero h =
    let t = two p b (suc b) c.0 in
    (λ e. ap p (omega arith) ∙ t.0 (ap p (omega arith) ∙ e), λ e. ap p (omega arith) ∙ t.1 (ap p (omega arith) ∙ e))
order_kept p b (suc n) c (suc k) h =
    let t = order_kept p (suc b) n c.1 k (omega arith) in
    (λ e. ap p (omega arith) ∙ t.0 (ap p (omega arith) ∙ e), λ e. ap p (omega arith) ∙ t.1 (ap p (omega arith) ∙ e))

level_kept : (p : ℕ → ℕ) (b d : ℕ) → ClausesClosed p (order_of (suc b) (d - 1)) → Kept p b d
level_kept p b d c j h k =
    let t = order_kept p (suc b) (d - 1) c (j - 1) (omega arith) in
    (λ e. ap p (omega arith) ∙ t.0 (ap p (omega arith) ∙ e), λ e. ap p (omega arith) ∙ t.1 (ap p (omega arith) ∙ e))

orders_kept : (p : ℕ → ℕ) (b : ℕ) (ls : List Level) → ClausesClosed p (orders_of b ls) → AllKept p b ls
orders_kept p b [] c = tt
orders_kept p b (l ∷ ls) c =
    let t = each_append p (order_of (suc b) (l.dom - 1)) (orders_of (b + l.dom) ls) c in
    (level_kept p b l.dom t.0, orders_kept p (b + l.dom) ls t.1)

-- a node's clauses: a true node makes its child true; a false child makes its node false; a true node and a false child make (i, j) true
pub record EdgeClosed (p : ℕ → ℕ) (n x j e : ℕ) : Type 0 where
  pub down : p n ≡ 1 → (1 ≤ j → p x ≡ 0) → p e ≡ 1
  pub up : p e ≡ 0 → (1 ≤ j → p x ≡ 0) → p n ≡ 0
  pub side : p n ≡ 1 → p e ≡ 0 → 1 ≤ j → p x ≡ 1

abbrev pub EdgesClosed : (ℕ → ℕ) → ℕ → ℕ → ℕ → List Edge → Type 0
EdgesClosed p D n b es = (j : ℕ) → j < length es → EdgeClosed p n (b + j) j (edge_boolean D (get_or es j F))

children_closed : (p : ℕ → ℕ) (D n b : ℕ) (es : List Edge) → ClausesClosed p (children_of D n b es) → (j : ℕ) → j < length es → ClauseClosed p (not_of n ∷ yes_of (b + j) ∷ yes_of (edge_boolean D (get_or es j F)) ∷ [])
children_closed p D n b [] c j h = absurd (not-suc-le-zero h)
children_closed p D n b (e ∷ es) c zero h = let q : b ≡ b + 0 = omega arith in subst (λ (x : ℕ). ClauseClosed p (not_of n ∷ yes_of x ∷ yes_of (edge_boolean D e) ∷ [])) q c.0
children_closed p D n b (e ∷ es) c (suc j) h =
    let q : suc b + j ≡ b + suc j = omega arith in
    subst (λ (x : ℕ). ClauseClosed p (not_of n ∷ yes_of x ∷ yes_of (edge_boolean D (get_or es j F)) ∷ [])) q (children_closed p D n (suc b) es c.1 j (omega arith))

node_closed : (p : ℕ → ℕ) (D n b : ℕ) (es : List Edge) → ClausesClosed p (node_of D n (suc b) es) → EdgesClosed p D n b es
node_closed p D n b [] c j h = absurd (not-suc-le-zero h)
node_closed p D n b (e ∷ es) c zero h =
    let t = two p n (edge_boolean D e) c.0 in
    record { down = λ x y. t.0 x; up = λ x y. t.1 x; side = λ x y z. absurd (not-suc-le-zero z) }
node_closed p D n b (e ∷ es) c (suc j) h =
    let q : suc b + j ≡ b + suc j = omega arith in
    let t = three p n (b + suc j) (edge_boolean D (get_or es j F))
    (subst (λ (x : ℕ). ClauseClosed p (not_of n ∷ yes_of x ∷ yes_of (edge_boolean D (get_or es j F)) ∷ [])) q (children_closed p D n (suc b) es c.1 j (omega arith))) in
    record { down = λ x y. t.0 x (y (omega arith)); up = λ x y. t.1 x (y (omega arith)); side = λ x y z. t.2 x y }

nodes_closed : (p : ℕ → ℕ) (ls : List Level) (D k : ℕ) (xs : List Node) → ClausesClosed p (nodes_of ls D k xs)
    → (m : ℕ) → m < length xs → EdgesClosed p D (D + 3 + (k + m)) (orders_before ls ((node_at xs m).level - 1)) (node_at xs m).children
nodes_closed p ls D k [] c m h = absurd (not-suc-le-zero h)
nodes_closed p ls D k (x ∷ xs) c zero h =
    let t = each_append p (node_of D (D + 3 + k) (suc (orders_before ls (x.level - 1))) x.children) (nodes_of ls D (suc k) xs) c in
    let q : D + 3 + k ≡ D + 3 + (k + 0) = omega arith in
    subst (λ (n : ℕ). EdgesClosed p D n (orders_before ls (x.level - 1)) x.children) q (node_closed p D (D + 3 + k) (orders_before ls (x.level - 1)) x.children t.0)
nodes_closed p ls D k (x ∷ xs) c (suc m) h =
    let t = each_append p (node_of D (D + 3 + k) (suc (orders_before ls (x.level - 1))) x.children) (nodes_of ls D (suc k) xs) c in
    let q : D + 3 + (suc k + m) ≡ D + 3 + (k + suc m) = omega arith in
    subst (λ (n : ℕ). EdgesClosed p D n (orders_before ls ((node_at xs m).level - 1)) (node_at xs m).children) q (nodes_closed p ls D (suc k) xs t.1 m (omega arith))

-- A DRAWING'S CLAUSES, closed
pub record ClosedDrawing (p : ℕ → ℕ) (ls : List Level) (top : Edge) (ns : List Node) : Type 0 where
  pub kept : AllKept p 0 ls
  pub bottom : p (orders ls + 2) ≡ 0
  pub root : p (edge_boolean (orders ls) top) ≡ 1
  pub edges : (n : ℕ) → n < length ns → EdgesClosed p (orders ls) (orders ls + 3 + n) (orders_before ls ((node_at ns n).level - 1)) (node_at ns n).children

pub closed_drawing : (p : ℕ → ℕ) (ls : List Level) (top : Edge) (ns : List Node) → UnitClosed (pattern ls top ns) (TrueBy p) → ClosedDrawing p ls top ns
closed_drawing p ls top ns c =
    let t = each_append p (orders_of 0 ls) (units_of (orders ls) top ++ nodes_of ls (orders ls) 0 ns) (closed_each p (pattern ls top ns) c) in
    let u = each_append p (units_of (orders ls) top) (nodes_of ls (orders ls) 0 ns) t.1 in
    record {
      kept = orders_kept p 0 ls t.0;
      bottom = only p (not_of (orders ls + 2)) u.0.1.0;
      root = only p (yes_of (edge_boolean (orders ls) top)) u.0.1.1.0;
      edges = λ n h. let q : orders ls + 3 + (0 + n) ≡ orders ls + 3 + n = omega arith in
          subst (λ (x : ℕ). EdgesClosed p (orders ls) x (orders_before ls ((node_at ns n).level - 1)) (node_at ns n).children) q (nodes_closed p ls (orders ls) 0 ns u.1 n h);
    }
