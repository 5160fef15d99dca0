-- THE BASE FORM SAYS WHAT THE STUDENT WROTE: its choices and the values in their domains correspond one to one, and the constraint as written holds for the values
-- just where the base form allows the choice. By differences of natural numbers. Assumes nothing.
use mathlib.Core.Path.{◌≡◌, refl, ap, ap₂, subst}
use mathlib.Core.Logic.{◌↔◌}
use mathlib.Core.Bool.{Bool, true, false, not}
use mathlib.Core.List.{List, [], ◌∷◌, map}
use Prim.Native.Nat.{ℕ, suc, ◌+◌, ◌-◌, ◌*◌, ◌≤◌}
use native.Mathlib.Nat.{mul-add}
use native.Mathlib.Omega.{arith}
use lib.IntN.{ℤ, pos, pred_ℤ, suc_ℤ, neg_ℤ, ◌+ℤ◌, ◌*ℤ◌, neg_ℤ-neg_ℤ, neg_ℤ-+ℤ}
use Rattle.diagram.specs.Level.{Choice, total, AtMost, Allows}
use Rattle.diagram.specs.Constraint.{levels}
use Rattle.inequality.specs.Written.{Relation, at_most, less_than, at_least, greater_than, SignedTerm, Inequality, upper_end, InDomain, InDomains, signed, adds, sum_of, Related, Satisfies}
use Rattle.inequality.specs.Base.{bound_by, turned_by, sign_if, negative_by, value_if, values_by, stands_for, shift_if, shifts, base_term, base_form}
use Rattle.inequality.specs.Claim.{base_levels}
use Rattle.inequality.proofs.Differences.{Is, plus_of, minus_of, is_own, is_same, is_also, is_one, is_add, is_above, is_neg, is_less, is_mul, is_suc, is_pred, no_more, at_most_lem}

-- ---- One term: its upper end and its shift by its lower end, all as differences

pub upper_by : (t : SignedTerm) (a b : ℕ) → Is t.lower a b → Is (upper_end t) (a + t.distance) b
upper_by t a b e = is_above t.lower t.distance a b e

pub shift_by_lower : (t : SignedTerm) (a b : ℕ) → Is t.lower a b → Is (shift_if false t) (t.magnitude * b) (t.magnitude * a)
shift_by_lower t a b e = is_neg (pos t.magnitude *ℤ t.lower) (t.magnitude * a) (t.magnitude * b) (is_mul t.magnitude t.lower a b e)

pub shift_by_upper : (t : SignedTerm) (a b : ℕ) → Is t.lower a b → Is (shift_if true t) (t.magnitude * (a + t.distance)) (t.magnitude * b)
shift_by_upper t a b e = is_mul t.magnitude (upper_end t) (a + t.distance) b (upper_by t a b e)

-- ---- Its ends and the value of a choice

module _ (t : SignedTerm) where
  abbrev lo : ℕ
  lo = plus_of t.lower

  abbrev lu : ℕ
  lu = minus_of t.lower

  lower_is : Is t.lower lo lu
  lower_is = is_own t.lower

  upper_is : Is (upper_end t) (lo + t.distance) lu
  upper_is = upper_by t lo lu lower_is

  value_up : (y : ℕ) → Is (value_if false t y) (lo + y) lu
  value_up y = is_above t.lower y lo lu lower_is

  value_down : (y : ℕ) → Is (value_if true t y) (lo + t.distance) (lu + y)
  value_down y =
      is_also (value_if true t y) (lo + t.distance + 0) (lu + y) (lo + t.distance) (lu + y)
      (is_less (upper_end t) (pos y) (lo + t.distance) lu y 0 upper_is (omega arith)) (omega arith)

  -- the value of a choice is in the domain
  value_in_lem : (n : Bool) (y : ℕ) → y ≤ t.distance → InDomain t (value_if n t y)
  value_in_lem false y h = (
    (no_more t.lower (value_if false t y) lo lu (lo + y) lu lower_is (value_up y)).1 (omega arith),
    (no_more (value_if false t y) (upper_end t) (lo + y) lu (lo + t.distance) lu (value_up y) upper_is).1 (omega arith),
  )
  value_in_lem true y h = (
    (no_more t.lower (value_if true t y) lo lu (lo + t.distance) (lu + y) lower_is (value_down y)).1 (omega arith),
    (no_more (value_if true t y) (upper_end t) (lo + t.distance) (lu + y) (lo + t.distance) lu (value_down y) upper_is).1 (omega arith),
  )

  -- every value in the domain is that of a choice
  choice_of : (n : Bool) (x : ℤ) (xo xu : ℕ) → Is x xo xu → lo + xu ≤ xo + lu → xo + lu ≤ lo + t.distance + xu → (y : ℕ) × (y ≤ t.distance) × (value_if n t y ≡ x)
  choice_of false x xo xu e p q =
      let y = xo + lu - (lo + xu) in
      (y, omega arith, is_same (value_if false t y) x (lo + y) lu xo xu (value_up y) e (omega arith))
  choice_of true x xo xu e p q =
      let y = lo + t.distance + xu - (xo + lu) in
      (y, omega arith, is_same (value_if true t y) x (lo + t.distance) (lu + y) xo xu (value_down y) e (omega arith))

  value_of : (n : Bool) (x : ℤ) → InDomain t x → (y : ℕ) × (y ≤ t.distance) × (value_if n t y ≡ x)
  value_of n x (p, q) =
      choice_of n x (plus_of x) (minus_of x) (is_own x) ((no_more t.lower x lo lu (plus_of x) (minus_of x) lower_is (is_own x)).0 p)
      ((no_more x (upper_end t) (plus_of x) (minus_of x) (lo + t.distance) lu (is_own x) upper_is).0 q)

  -- and of one only
  value_once : (n : Bool) (y z : ℕ) → value_if n t y ≡ value_if n t z → y ≡ z
  value_once false y z e = omega (arith, is_one (value_if false t z) (lo + y) lu (lo + z) lu (subst (λ (x : ℤ). Is x (lo + y) lu) e (value_up y)) (value_up z))
  value_once true y z e =
      omega (arith, is_one (value_if true t z) (lo + t.distance) (lu + y) (lo + t.distance) (lu + z) (subst (λ (x : ℤ). Is x (lo + t.distance) (lu + y)) e (value_down y)) (value_down z))

-- ---- ONE TO ONE

-- choices of the base form stand for values in their domains,
pub stands_in : (r : Relation) (ts : List SignedTerm) (ys : List ℕ) → Choice (levels (map base_term ts)) ys → InDomains ts (values_by r ts ys)
stands_in r [] [] h = tt
stands_in r [] (y ∷ ys) h = absurd h
stands_in r (t ∷ ts) [] h = absurd h
stands_in r (t ∷ ts) (y ∷ ys) (h, k) = (value_in_lem t (negative_by r t) y h, stands_in r ts ys k)

-- all of them,
pub stands_all : (r : Relation) (ts : List SignedTerm) (xs : List ℤ) → InDomains ts xs → (ys : List ℕ) × Choice (levels (map base_term ts)) ys × (values_by r ts ys ≡ xs)
stands_all r [] [] h = ([], tt, refl)
stands_all r [] (x ∷ xs) h = absurd h
stands_all r (t ∷ ts) [] h = absurd h
stands_all r (t ∷ ts) (x ∷ xs) (h, k) =
    let a = value_of t (negative_by r t) x h in
    let b = stands_all r ts xs k in
    (a.0 ∷ b.0, (a.1, b.1), ap₂ (λ (u : ℤ) (us : List ℤ). u ∷ us) a.2 b.2)

-- and each of them once.
pub stands_once : (r : Relation) (ts : List SignedTerm) (ys zs : List ℕ) → Choice (levels (map base_term ts)) ys → Choice (levels (map base_term ts)) zs
    → values_by r ts ys ≡ values_by r ts zs → ys ≡ zs
stands_once r [] [] [] h k e = refl
stands_once r [] [] (z ∷ zs) h k e = absurd k
stands_once r [] (y ∷ ys) zs h k e = absurd h
stands_once r (t ∷ ts) [] zs h k e = absurd h
stands_once r (t ∷ ts) (y ∷ ys) [] h k e = absurd k
stands_once r (t ∷ ts) (y ∷ ys) (z ∷ zs) h k e =
    ap₂ (λ (u : ℕ) (us : List ℕ). u ∷ us) (value_once t (negative_by r t) y z (ap first e)) (stands_once r ts ys zs h.1 k.1 (ap rest e))
  where
    first : List ℤ → ℤ
    first [] = pos 0
    first (x ∷ xs) = x

    rest : List ℤ → List ℤ
    rest [] = []
    rest (x ∷ xs) = xs

-- ---- THE SUM

-- equal to a natural number, as differences
sum_is : (x w : ℤ) (k : ℕ) → x +ℤ w ≡ pos k → plus_of x + plus_of w ≡ minus_of x + minus_of w + k
sum_is x w k e =
    subst (λ (z : ℤ). Is z (plus_of x + plus_of w) (minus_of x + minus_of w)) e (is_add x w (plus_of x) (minus_of x) (plus_of w) (minus_of w) (is_own x) (is_own w))

is_nat : (x w : ℤ) (a b c d k : ℕ) → Is x a b → Is w c d → a + c ≡ b + d + k → x +ℤ w ≡ pos k
is_nat x w a b c d k p q e = is_same (x +ℤ w) (pos k) (a + c) (b + d) k 0 (is_add x w a b c d p q) (omega arith) (omega arith)

module _ (t : SignedTerm) (y : ℕ) where
  abbrev a : ℕ
  a = t.magnitude

  product_up : Is (pos a *ℤ value_if false t y) (a * (lo t + y)) (a * lu t)
  product_up = is_mul a (value_if false t y) (lo t + y) (lu t) (value_up t y)

  product_down : Is (pos a *ℤ value_if true t y) (a * (lo t + t.distance)) (a * (lu t + y))
  product_down = is_mul a (value_if true t y) (lo t + t.distance) (lu t + y) (value_down t y)

  -- a term positive by now, and one that is negative
  taken_up : pos a *ℤ value_if false t y +ℤ shift_if false t ≡ pos (a * y)
  taken_up =
      is_nat (pos a *ℤ value_if false t y) (shift_if false t) (a * (lo t + y)) (a * lu t) (a * lu t) (a * lo t) (a * y) product_up (shift_by_lower t (lo t) (lu t) (lower_is t))
      (omega (arith, mul-add a (lo t) y))

  taken_down : neg_ℤ (pos a *ℤ value_if true t y) +ℤ shift_if true t ≡ pos (a * y)
  taken_down =
      is_nat (neg_ℤ (pos a *ℤ value_if true t y)) (shift_if true t) (a * (lu t + y)) (a * (lo t + t.distance)) (a * (lo t + t.distance)) (a * lu t) (a * y)
      (is_neg (pos a *ℤ value_if true t y) (a * (lo t + t.distance)) (a * (lu t + y)) product_down) (shift_by_upper t (lo t) (lu t) (lower_is t)) (omega (arith, mul-add a (lu t) y))

  -- what a term adds once the relation is 'at most', and its shift, are what its choice takes in the base form
  taken_if : (n : Bool) → signed n (pos a *ℤ value_if n t y) +ℤ shift_if n t ≡ pos (a * y)
  taken_if false = taken_up
  taken_if true = taken_down

negated_twice : (n : Bool) (z : ℤ) → neg_ℤ (signed n z) ≡ signed (not n) z
negated_twice true z = neg_ℤ-neg_ℤ z
negated_twice false z = refl

-- the same, and sums, with the sign turned round or not
taken : (b : Bool) (t : SignedTerm) (y : ℕ) → signed b (adds t (value_if (sign_if b t.negative) t y)) +ℤ shift_if (sign_if b t.negative) t ≡ pos (t.magnitude * y)
taken false t y = taken_if t y t.negative
taken true t y = rw (negated_twice t.negative (pos t.magnitude *ℤ value_if (not t.negative) t y)) (taken_if t y (not t.negative))

signed_add : (b : Bool) (x y : ℤ) → signed b (x +ℤ y) ≡ signed b x +ℤ signed b y
signed_add false x y = refl
signed_add true x y = neg_ℤ-+ℤ x y

signed_none : (b : Bool) → signed b (pos 0) +ℤ pos 0 ≡ pos 0
signed_none false = refl
signed_none true = refl

four : (x s v w : ℤ) (j k : ℕ) → x +ℤ v ≡ pos j → s +ℤ w ≡ pos k → (x +ℤ s) +ℤ (v +ℤ w) ≡ pos (j + k)
four x s v w j k e f =
    is_nat (x +ℤ s) (v +ℤ w) (plus_of x + plus_of s) (minus_of x + minus_of s) (plus_of v + plus_of w) (minus_of v + minus_of w) (j + k)
    (is_add x s (plus_of x) (minus_of x) (plus_of s) (minus_of s) (is_own x) (is_own s))
    (is_add v w (plus_of v) (minus_of v) (plus_of w) (minus_of w) (is_own v) (is_own w))
    (omega (arith, sum_is x v j e, sum_is s w k f))

-- THE SUM AS WRITTEN, turned round where the relation is, and the shifts together are what the choice takes in the base form
pub sum_shifted : (r : Relation) (ts : List SignedTerm) (ys : List ℕ) → Choice (levels (map base_term ts)) ys
    → signed (turned_by r) (sum_of ts (values_by r ts ys)) +ℤ shifts r ts ≡ pos (total (levels (map base_term ts)) ys)
sum_shifted r [] ys h = signed_none (turned_by r)
sum_shifted r (t ∷ ts) [] h = absurd h
sum_shifted r (t ∷ ts) (y ∷ ys) h =
    rw (signed_add (turned_by r) (adds t (value_if (negative_by r t) t y)) (sum_of ts (values_by r ts ys)))
    (four (signed (turned_by r) (adds t (value_if (negative_by r t) t y))) (signed (turned_by r) (sum_of ts (values_by r ts ys))) (shift_if (negative_by r t) t) (shifts r ts) (t.magnitude * y) (total (levels (map base_term ts)) ys)
    (taken (turned_by r) t y) (sum_shifted r ts ys h.1))

-- ---- THE RELATION

module _ (s w b : ℤ) (k : ℕ) where
  abbrev so : ℕ
  so = plus_of s

  abbrev su : ℕ
  su = minus_of s

  abbrev wo : ℕ
  wo = plus_of w

  abbrev wu : ℕ
  wu = minus_of w

  abbrev bo : ℕ
  bo = plus_of b

  abbrev bu : ℕ
  bu = minus_of b

  straight : s +ℤ w ≡ pos k → so + wo ≡ su + wu + k
  straight e = sum_is s w k e

  round : neg_ℤ s +ℤ w ≡ pos k → su + wo ≡ so + wu + k
  round e = subst (λ (z : ℤ). Is z (su + wo) (so + wu)) e (is_add (neg_ℤ s) w su so wo wu (is_neg s so su (is_own s)) (is_own w))

  -- the base bound allows k, where b is the bound as a difference
  allows : (x : ℤ) (c d : ℕ) → Is x c d → AtMost k (x +ℤ w) ↔ (k + (d + wu) ≤ c + wo)
  allows x c d e = at_most_lem k (x +ℤ w) (c + wo) (d + wu) (is_add x w c d wo wu e (is_own w))

  pub related_base : (r : Relation) → signed (turned_by r) s +ℤ w ≡ pos k → Related r s b ↔ AtMost k (bound_by r b +ℤ w)
  related_base at_most e =
      let p = no_more s b so su bo bu (is_own s) (is_own b) in
      let q = allows b bo bu (is_own b) in
      let f = straight e in
      (λ h. q.1 (omega (arith, p.0 h)), λ h. p.1 (omega (arith, q.0 h)))
  related_base less_than e =
      let p = no_more (suc_ℤ s) b (suc so) su bo bu (is_suc s so su (is_own s)) (is_own b) in
      let q = allows (pred_ℤ b) bo (suc bu) (is_pred b bo bu (is_own b)) in
      let f = straight e in
      (λ h. q.1 (omega (arith, p.0 h)), λ h. p.1 (omega (arith, q.0 h)))
  related_base at_least e =
      let p = no_more b s bo bu so su (is_own b) (is_own s) in
      let q = allows (neg_ℤ b) bu bo (is_neg b bo bu (is_own b)) in
      let f = round e in
      (λ h. q.1 (omega (arith, p.0 h)), λ h. p.1 (omega (arith, q.0 h)))
  related_base greater_than e =
      let p = no_more (suc_ℤ b) s (suc bo) bu so su (is_suc b bo bu (is_own b)) (is_own s) in
      let q = allows (pred_ℤ (neg_ℤ b)) bu (suc bo) (is_pred (neg_ℤ b) bu bo (is_neg b bo bu (is_own b))) in
      let f = round e in
      (λ h. q.1 (omega (arith, p.0 h)), λ h. p.1 (omega (arith, q.0 h)))

-- THE CONSTRAINT AS WRITTEN holds for the values that a choice stands for just where the base form allows the choice.
pub written_base : (q : Inequality) (ys : List ℕ) → Choice (base_levels q) ys → Satisfies q (stands_for q ys) ↔ Allows (base_levels q) (base_form q).bound ys
written_base q ys h =
    let e = related_base (sum_of q.terms (stands_for q ys)) (shifts q.relation q.terms) q.bound (total (base_levels q) ys) q.relation (sum_shifted q.relation q.terms ys h) in
    (λ s. (h, e.0 s.related), λ a. record { inside = stands_in q.relation q.terms ys h; related = e.1 a.1 })
