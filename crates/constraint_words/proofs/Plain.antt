-- PLAIN WORDS, a bound and terms without a sign: no relation is given and no lower end, so of the checks 3, 4 and 5 are left, and the base form is what document 01
-- says. Assumes nothing.
use mathlib.Core.Path.{◌≡◌, refl, ap, subst, ◌∙◌}
use mathlib.Core.Bool.{Bool, true, false, cond}
use mathlib.Core.List.{List, [], ◌∷◌, map}
use Prim.Native.Nat.{ℕ, zero, suc, ◌+◌, ◌-◌, ◌*◌, ◌/◌, ◌≤◌, ◌<◌}
use native.Mathlib.Omega.{arith}
use borrow.Author.Tests.{ne_eqb, eqb-true, leb-true, leb-false, lt-leb}
use lib.Dec.{eqb, leb}
use lib.IntN.{pos, +ℤ_idr}
use lib.ListN.{length, get_or, drop, length-drop, get_or-eq_default}
use lib.Seq.{get_or-drop}
use Rattle.std.specs.Prelude.{◌==◌, count_by}
use Rattle.std.proofs.lemmas.List.Recursion.{is_count_by}
use Rattle.word.specs.Word.{kind, payload, half, coefficient, domain_end}
use Rattle.std.specs.Prelude.{Err}
use Rattle.refusal.specs.Table.{passed}
use Rattle.refusal.specs.declared.Refusal.{Refusal}
use Rattle.diagram.specs.Constraint.{Term}
use Rattle.limits.specs.declared.Limits.{Limits}
use Rattle.inequality.specs.Written.{at_most}
use Rattle.inequality.specs.Base.{base_term, shifts}
use Rattle.constraint_words.specs.Reading.{has_relation, first_item, items, each_from, placed_from, lower_checked, count_checked, term_checked, terms_from, terms_in, items_checked, checked, as_written, stated}
use Rattle.constraint_words.specs.Plain.{unsigned_in, is_plain}
use Rattle.constraint_words.proofs.Checking.{stands_term, relation_none, items_count, items_rest, checked_items}
use Rattle.constraint_words.proofs.Items.{term_count, no_lowers}

-- A word that is a term without a sign.
abbrev pub Unsigned : ℕ → Type 0
Unsigned w = w / half ≡ 2

AllUnsigned : List ℕ → Type 0
AllUnsigned [] = Unit {0}
AllUnsigned (w ∷ ws) = Unsigned w × AllUnsigned ws

pub unsigned_most : (us : List ℕ) → unsigned_in us ≤ length us
unfolding unsigned_in
unsigned_most [] = omega arith
unsigned_most (u ∷ us) = go (eqb (u / half) 2) (unsigned_most us)
  where
    go : (b : Bool) → unsigned_in us ≤ length us → cond b (suc (unsigned_in us)) (unsigned_in us) ≤ suc (length us)
    go true h = omega arith
    go false h = omega arith

all_plain : (us : List ℕ) → unsigned_in us ≡ length us → AllUnsigned us
unfolding unsigned_in AllUnsigned
all_plain [] e = tt
all_plain (u ∷ us) e = go (eqb (u / half) 2) refl e (unsigned_most us) (λ f. all_plain us f)
  where
    go : (b : Bool) → eqb (u / half) 2 ≡ b → cond b (suc (unsigned_in us)) (unsigned_in us) ≡ suc (length us) → unsigned_in us ≤ length us → (unsigned_in us ≡ length us → AllUnsigned us)
        → Unsigned u × AllUnsigned us
    go true k e h more = (eqb-true (u / half) 2 k, more (omega arith))
    go false k e h more = absurd (omega arith)

plain_at : (us : List ℕ) (i : ℕ) → AllUnsigned us → i < length us → Unsigned (get_or us i 0)
unfolding AllUnsigned
plain_at [] i a h = absurd (omega arith)
plain_at (u ∷ us) zero a h = a.0
plain_at (u ∷ us) (suc i) a h = plain_at us i a.1 (omega arith)

-- how many they are, as a chain of iterators counts them
pub unsigned_by : (ws : List ℕ) → unsigned_in ws ≡ count_by (λ w. w / half == 2) ws
unfolding unsigned_in
unsigned_by = is_count_by unsigned_in (λ w. w / half == 2) refl (λ w ws. go ws (w / half == 2))
  where
    go : (ws : List ℕ) (b : Bool) → cond b (suc (unsigned_in ws)) (unsigned_in ws) ≡ cond b (1 + unsigned_in ws) (unsigned_in ws)
    go ws true = omega arith
    go ws false = refl

-- ---- The check

placed_plain : (at : ℕ) (us : List ℕ) → AllUnsigned us → placed_from false at us ≡ passed
unfolding placed_from AllUnsigned
placed_plain at [] a = refl
placed_plain at (u ∷ us) a =
    let e = a.0 in
    rw (stands_term false (kind u) (omega arith), ne_eqb (kind u) 2 (omega arith)) (placed_plain (suc at) us a.1)

count_plain : (us : List ℕ) → AllUnsigned us → term_count us ≡ length us
unfolding terms_from AllUnsigned
count_plain [] a = refl
count_plain (u ∷ us) a = let e = a.0 in rw (ne_eqb (kind u) 2 (omega arith)) (ap suc (count_plain us a.1))

module _ (ws : List ℕ) (only : is_plain ws ≡ true) where
  pub plain_count : unsigned_in (drop 1 ws) + 1 ≡ length ws
  plain_count = eqb-true (unsigned_in (drop 1 ws) + 1) (length ws) only

  rest_plain : AllUnsigned (drop 1 ws)
  rest_plain = all_plain (drop 1 ws) (omega (arith, plain_count, length-drop 1 ws))

  pub plain_word : (at : ℕ) → 1 ≤ at → at < length ws → Unsigned (get_or ws at 0)
  plain_word at h k =
      let e : 1 + (at - 1) ≡ at = omega arith in
      subst (λ (i : ℕ). Unsigned (get_or ws i 0)) e
      (subst Unsigned (get_or-drop 1 ws (at - 1) 0) (plain_at (drop 1 ws) (at - 1) rest_plain (omega (arith, length-drop 1 ws))))

  pub not_related : has_relation ws ≡ false
  not_related = go (leb 2 (length ws)) refl
    where
      go : (b : Bool) → leb 2 (length ws) ≡ b → has_relation ws ≡ false
      go true e = let p = plain_word 1 (omega arith) (leb-true 2 (length ws) e) in ne_eqb (kind (get_or ws 1 0)) 3 (omega arith)
      go false e = rw (get_or-eq_default ws 0 {n = 1} (omega (arith, leb-false 2 (length ws) e)))

  first_one : first_item ws ≡ 1
  first_one = rw not_related

  placed : placed_from false (first_item ws) (items ws) ≡ passed
  placed = rw first_one (placed_plain 1 (drop 1 ws) rest_plain)

  pub terms_count : length (terms_in ws) ≡ length ws - 1
  terms_count = rw first_one (count_plain (drop 1 ws) rest_plain ∙ length-drop 1 ws)

  lowers : each_from lower_checked (first_item ws) (items ws) ≡ passed
  lowers = rw first_one (no_lowers 1 (drop 1 ws) (count_plain (drop 1 ws) rest_plain))

  module _ (l : Limits) (first : kind (get_or ws 0 0) ≡ 0) where
    plain_parts : checked l ws ≡ items_checked l ws
    plain_parts = checked_items l ws (omega (arith, plain_count)) first placed

    pub plain_3 : (x : Refusal) → count_checked l (length ws) (length ws - 1) ≡ Err x → checked l ws ≡ Err x
    plain_3 x e = plain_parts ∙ items_count l ws (relation_none ws not_related) lowers x (rw terms_count e)

    pub plain_terms : count_checked l (length ws) (length ws - 1) ≡ passed → checked l ws ≡ each_from term_checked 1 (drop 1 ws)
    plain_terms e =
        plain_parts ∙ items_rest l ws (relation_none ws not_related) lowers (rw terms_count e)
        ∙ ap (λ (f : ℕ). each_from term_checked f (drop f ws)) first_one

-- ---- The constraint

-- The term of document 01 that a word states.
abbrev pub plain_term : ℕ → Term
plain_term w = record { coef = coefficient w; end = domain_end w }

terms_plain : (us : List ℕ) → AllUnsigned us → map base_term (terms_from (pos 0) us) ≡ map plain_term us
unfolding terms_from AllUnsigned
terms_plain [] a = refl
terms_plain (u ∷ us) a = let e = a.0 in rw (ne_eqb (kind u) 2 (omega arith)) (ap (λ (ts : List Term). plain_term u ∷ ts) (terms_plain us a.1))

shifts_plain : (us : List ℕ) → AllUnsigned us → shifts at_most (terms_from (pos 0) us) ≡ pos 0
unfolding terms_from AllUnsigned
shifts_plain [] a = refl
shifts_plain (u ∷ us) a =
    let e = a.0 in
    let z : coefficient u * 0 ≡ 0 = omega arith in
    rw (ne_eqb (kind u) 2 (omega arith), lt-leb half (payload u) (omega arith), z) (rw (shifts_plain us a.1))

-- PLAIN WORDS STATE WHAT DOCUMENT 01 SAYS: the first payload is the bound, and every later word a term.
pub plain_stated : (ws : List ℕ) → is_plain ws ≡ true → stated ws ≡ record { bound = pos (payload (get_or ws 0 0)); terms = map plain_term (drop 1 ws) }
unfolding stated as_written
plain_stated ws only =
    let p = payload (get_or ws 0 0) in
    let a = rest_plain ws only in
    let b : (stated ws).bound ≡ pos p = rw (not_related ws only, shifts_plain (drop 1 ws) a) (+ℤ_idr (pos p)) in
    let t : (stated ws).terms ≡ map plain_term (drop 1 ws) = rw (not_related ws only) (terms_plain (drop 1 ws) a) in
    λ i. record { bound = b i; terms = t i }
