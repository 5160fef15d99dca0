-- THE LAWS OF UNIT PROPAGATION: what is settled is the least set of literals that has what is given and is closed under unit clauses; the bytes that are
-- reached hold just this, and a conflict is found just where all literals of some clause are false in it. So the order of working makes no difference: any
-- closed bytes without a conflict that extend the given ones soundly are these. Assumes nothing.
use mathlib.Core.Path.{◌≡◌, refl, sym, ap, ap₂, subst, ◌∙◌}
use mathlib.Core.Logic.{◌↔◌, ◌⊎◌, ⊎_elim}
use mathlib.Core.List.{List, [], ◌∷◌}
use mathlib.Core.Bool.{Bool, true, false}
use Prim.Native.Nat.{ℕ, suc}
use native.Mathlib.Omega.{arith}
use lib.Dec.{eqb}
use lib.ListN.{length, get_or}
use borrow.Author.Tests.{eqb-true, eqb-false}
use Rattle.clause.specs.Meaning.{Literal, Clause}
use Rattle.propagation.specs.Derived.{byte, TrueIn, opposite, HasClause, Derived, given, implied, UnitClosed, Conflicting, Bytes, KnownIn}
use Rattle.propagation.specs.Propagated.{Outcome, conflict, reached, propagated}
use Rattle.propagation.proofs.Status.{neither_true, neither_not_false}
use Rattle.propagation.specs.Extension.{SoundExtension, Stable}
use Rattle.propagation.proofs.Passes.{PassesEnd, propagated_ends}

-- ---- What is settled

-- IT IS CLOSED, and in every closed set that has what is given
pub settled_closed : (cs : List Clause) (bs : List ℕ) → UnitClosed cs (Derived cs bs)
settled_closed cs bs c m l n f = implied c m l n f

pub settled_least : (cs : List Clause) (bs : List ℕ) (S : Literal → Type 0) → ((l : Literal) → TrueIn bs l → S l) → UnitClosed cs S → (l : Literal) → Derived cs bs l → S l
settled_least cs bs S g f l (given k t) = g k t
settled_least cs bs S g f l (implied c m k n h) = f c m k n (λ j i d. settled_least cs bs S g f (opposite j) (h j i d))

-- ---- Stable bytes

pub stable_closed : (bs : List ℕ) (cs : List Clause) → Stable bs cs → UnitClosed cs (TrueIn bs)
stable_closed bs cs q c m l n f = neither_true bs c (q c m) l n f

stable_free : (bs : List ℕ) (cs : List Clause) → Stable bs cs → Conflicting cs (TrueIn bs) → ⊥
stable_free bs cs q (c, m, f) = neither_not_false bs c (q c m) f

-- bytes of one length that hold the same are the same
bytes_same : (a b : List ℕ) → length a ≡ length b → Bytes a → Bytes b → ((i : ℕ) (x : Bool) → get_or a i 2 ≡ byte x → get_or b i 2 ≡ byte x)
    → ((i : ℕ) (x : Bool) → get_or b i 2 ≡ byte x → get_or a i 2 ≡ byte x) → a ≡ b
bytes_same [] [] e h k f g = refl
bytes_same [] (y ∷ b) e h k f g = absurd (omega arith)
bytes_same (x ∷ a) [] e h k f g = absurd (omega arith)
bytes_same (x ∷ a) (y ∷ b) e h k f g =
    ap₂ (λ (z : ℕ) (zs : List ℕ). z ∷ zs) (go (eqb x 0) refl (eqb x 1) refl (eqb y 0) refl (eqb y 1) refl)
    (bytes_same a b (omega arith) h.1 k.1 (λ i. f (suc i)) (λ i. g (suc i)))
  where
    go : (p : Bool) → eqb x 0 ≡ p → (q : Bool) → eqb x 1 ≡ q → (r : Bool) → eqb y 0 ≡ r → (s : Bool) → eqb y 1 ≡ s → x ≡ y
    go true e0 q e1 r e2 s e3 = let u : x ≡ 0 = eqb-true x 0 e0 in u ∙ sym (f 0 false u)
    go false e0 true e1 r e2 s e3 = let u : x ≡ 1 = eqb-true x 1 e1 in u ∙ sym (f 0 true u)
    go false e0 false e1 true e2 s e3 = absurd (eqb-false x 0 e0 (g 0 false (eqb-true y 0 e2)))
    go false e0 false e1 false e2 true e3 = absurd (eqb-false x 1 e1 (g 0 true (eqb-true y 1 e3)))
    go false e0 false e1 false e2 false e3 =
        let a0 = eqb-false x 0 e0 in
        let a1 = eqb-false x 1 e1 in
        let b0 = eqb-false y 0 e2 in
        let b1 = eqb-false y 1 e3 in
        omega (arith, h.0, k.0)

-- BYTES THAT ARE CLOSED, and extend the given ones soundly: they hold what is settled, and there are no others
module _ (cs : List Clause) (bs : List ℕ) where
  pub closed_settled : (b : List ℕ) → SoundExtension cs bs b → UnitClosed cs (TrueIn b) → (l : Literal) → TrueIn b l ↔ Derived cs bs l
  closed_settled b w q l = (w.sound l, settled_least cs bs (TrueIn b) w.keeps q l)

  closed_one : (b d : List ℕ) → SoundExtension cs bs b → UnitClosed cs (TrueIn b) → SoundExtension cs bs d → UnitClosed cs (TrueIn d) → b ≡ d
  closed_one b d w q v r =
      bytes_same b d (w.long ∙ sym v.long) w.legal v.legal
      (λ i x t. (closed_settled d v r (record { of = suc i; says = x })).1 (w.sound (record { of = suc i; says = x }) t))
      (λ i x t. (closed_settled b w q (record { of = suc i; says = x })).1 (v.sound (record { of = suc i; says = x }) t))

  -- a conflict in what is settled is one in them
  closed_conflict : (b : List ℕ) → SoundExtension cs bs b → UnitClosed cs (TrueIn b) → Conflicting cs (Derived cs bs) → Conflicting cs (TrueIn b)
  closed_conflict b w q (c, m, f) = (c, m, λ k i. (closed_settled b w q (opposite k)).1 (f k i))

  stable_no_conflict : (b : List ℕ) → SoundExtension cs bs b → Stable b cs → Conflicting cs (Derived cs bs) → ⊥
  stable_no_conflict b w q x = stable_free b cs q (closed_conflict b w (stable_closed b cs q) x)

module _ (cs : List Clause) (bs : List ℕ) (known : KnownIn (length bs) cs) (legal : Bytes bs) where
  -- ---- What propagation gives

  -- ANY ORDER of working that ends in closed bytes without a conflict, which extend the given ones soundly, ends in these; and where it comes to a conflict,
  -- propagation does
  pub closed_is : (b : List ℕ) → SoundExtension cs bs b → UnitClosed cs (TrueIn b) → (Conflicting cs (TrueIn b) → ⊥) → propagated cs bs ≡ reached b
  closed_is b w q n = go (propagated cs bs) (propagated_ends cs bs known legal)
    where
      go : (r : Outcome) → PassesEnd cs bs known r → r ≡ reached b
      go conflict x = absurd (n (closed_conflict cs bs b w q x))
      go (reached d) x = ap reached (closed_one cs bs d b x.0 (stable_closed d cs x.1) w q)

  pub reached_is : (b : List ℕ) → SoundExtension cs bs b → Stable b cs → propagated cs bs ≡ reached b
  reached_is b w q = closed_is b w (stable_closed b cs q) (stable_free b cs q)

  -- A CONFLICT is found just where all literals of some clause are false in what is settled
  pub conflict_is : (propagated cs bs ≡ conflict) ↔ Conflicting cs (Derived cs bs)
  conflict_is = (λ e. subst (λ (r : Outcome). PassesEnd cs bs known r) e (propagated_ends cs bs known legal), λ x. go x (propagated cs bs) (propagated_ends cs bs known legal))
    where
      go : Conflicting cs (Derived cs bs) → (r : Outcome) → PassesEnd cs bs known r → r ≡ conflict
      go x conflict y = refl
      go x (reached d) y = absurd (stable_no_conflict cs bs d y.0 y.1 x)

  pub extension_conflict : (b : List ℕ) → SoundExtension cs bs b → Conflicting cs (TrueIn b) → propagated cs bs ≡ conflict
  extension_conflict b w (c, m, f) = conflict_is.1 (c, m, λ k i. w.sound (opposite k) (f k i))

  module _ (b : List ℕ) (e : propagated cs bs ≡ reached b) where
    ended : SoundExtension cs bs b × Stable b cs
    ended = subst (λ (r : Outcome). PassesEnd cs bs known r) e (propagated_ends cs bs known legal)

    -- OTHERWISE the bytes hold just what is settled,
    pub settled_is : (l : Literal) → TrueIn b l ↔ Derived cs bs l
    settled_is = closed_settled cs bs b ended.0 (stable_closed b cs ended.1)

    -- as many as there were, each 0 to 2,
    pub reached_long : length b ≡ length bs
    reached_long = ended.0.long

    pub reached_legal : Bytes b
    reached_legal = ended.0.legal

    -- THE LEAST EXTENSION that is closed: it has what was given, is closed without a conflict, and whatever else is closed and has what was given has it
    pub reached_keeps : (l : Literal) → TrueIn bs l → TrueIn b l
    reached_keeps = ended.0.keeps

    pub reached_closed : UnitClosed cs (TrueIn b)
    reached_closed = stable_closed b cs ended.1

    pub reached_no_conflict : Conflicting cs (TrueIn b) → ⊥
    reached_no_conflict = stable_free b cs ended.1

    pub reached_least : (S : Literal → Type 0) → ((l : Literal) → TrueIn bs l → S l) → UnitClosed cs S → (l : Literal) → TrueIn b l → S l
    reached_least S g f l t = settled_least cs bs S g f l (ended.0.sound l t)

-- AGAIN, WITH MORE GIVEN: from bytes that hold nothing but what is settled, and more, the same is settled as from the given ones and that
pub settled_again : (cs : List Clause) (bs b xs ys : List ℕ) → ((l : Literal) → TrueIn b l → Derived cs bs l) → ((l : Literal) → TrueIn bs l → TrueIn xs l)
    → ((l : Literal) → TrueIn xs l → TrueIn ys l) → ((l : Literal) → TrueIn ys l → TrueIn b l ⊎ TrueIn xs l) → (l : Literal) → Derived cs xs l ↔ Derived cs ys l
settled_again cs bs b xs ys sound first more either l = (
  settled_least cs xs (Derived cs ys) (λ k t. given k (more k t)) (settled_closed cs ys) l,
  settled_least cs ys (Derived cs xs) (λ k t. ⊎_elim (λ u. from_first k (sound k u)) (given k) (either k t)) (settled_closed cs xs) l,
)
  where
    from_first : (k : Literal) → Derived cs bs k → Derived cs xs k
    from_first = settled_least cs bs (Derived cs xs) (λ j t. given j (first j t)) (settled_closed cs xs)

-- AN EMPTY CLAUSE is a conflict
pub empty_conflict : (cs : List Clause) (bs : List ℕ) → KnownIn (length bs) cs → Bytes bs → HasClause cs [] → propagated cs bs ≡ conflict
empty_conflict cs bs known legal m = (conflict_is cs bs known legal).1 ([], m, λ k i. absurd i)
