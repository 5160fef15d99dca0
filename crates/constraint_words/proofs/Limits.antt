-- THE CHECK UNDER OTHER LIMITS: what passes under some limits passes under wider ones, the main ones above all; and a limit of no terms refuses with 3 all that
-- passes 1, 2, 17 and 18. Assumes nothing.
use mathlib.Core.Path.{◌≡◌, refl, ap, ◌∙◌}
use mathlib.Core.Bool.{false}
use mathlib.Core.List.{List, [], ◌∷◌}
use Prim.Native.Nat.{ℕ, zero, suc, ◌≤◌, ◌<◌}
use native.Mathlib.Omega.{arith}
use lib.ListN.{length, get_or}
use Rattle.word.specs.Word.{kind}
use Rattle.refusal.specs.Table.{Checked}
use Rattle.std.specs.Prelude.{Err}
use Rattle.refusal.specs.Table.{passed}
use Rattle.refusal.specs.declared.Refusal.TheVariants.{TermCount}
use Rattle.limits.specs.declared.Limits.{Limits}
use Rattle.limits.specs.Limits.{main_limits, term_limit}
use Rattle.constraint_words.specs.Reading.{up_to, first_item, items, each_from, placed_from, relation_checked, lower_checked, terms_in, checked}
use Rattle.constraint_words.proofs.Checking.{up_to_in, up_to_below, up_to_above, checked_items, items_3, items_terms}
use Rattle.constraint_words.proofs.Laws.{up_to_lem, checked_all}

module _ (l m : Limits) (ws : List ℕ) (passes : checked l ws ≡ passed) where
  -- WIDER LIMITS on the terms let pass what passed,
  pub passed_wider : term_limit l ≤ term_limit m → checked m ws ≡ passed
  passed_wider h =
      let s = checked_all l ws passes in
      let n = up_to_lem (term_limit l) (length (terms_in ws)) s.count in
      checked_items m ws s.some s.first s.placed
      ∙ items_terms m ws s.relation s.lowers (up_to_in (term_limit m) (length (terms_in ws)) n.0 (omega (arith, n.1)))
      ∙ s.terms

  -- and narrower ones refuse it with 3 where its terms are more.
  pub refused_narrower : term_limit m < length (terms_in ws) → checked m ws ≡ Err (TermCount (length ws))
  refused_narrower h =
      let s = checked_all l ws passes in
      let n = up_to_lem (term_limit l) (length (terms_in ws)) s.count in
      checked_items m ws s.some s.first s.placed ∙ items_3 m ws s.relation s.lowers (up_to_above (term_limit m) (length (terms_in ws)) n.0 h)

-- THE MAIN LIMITS are the widest.
pub passed_main : (l : Limits) (ws : List ℕ) → checked l ws ≡ passed → checked main_limits ws ≡ passed
passed_main l ws passes = passed_wider l main_limits ws passes (omega arith)

-- A LIMIT OF NO TERMS refuses with 3 what passes 1, 2, 17 and 18.
pub none_allowed : (l : Limits) (ws : List ℕ) → l.terms ≡ 0 → 0 < length ws → kind (get_or ws 0 0) ≡ 0 → placed_from false (first_item ws) (items ws) ≡ passed → relation_checked ws ≡ passed
    → each_from lower_checked (first_item ws) (items ws) ≡ passed → checked l ws ≡ Err (TermCount (length ws))
none_allowed l ws none some first placed relation lowers =
    checked_items l ws some first placed ∙ items_3 l ws relation lowers (go (length (terms_in ws)))
  where
    go : (n : ℕ) → up_to (term_limit l) n ≡ false
    go zero = up_to_below (term_limit l) 0 (omega arith)
    go (suc n) = up_to_above (term_limit l) (suc n) (omega arith) (omega (arith, none))

-- The check under limits by another name.
pub checked_as : (l m : Limits) (ws : List ℕ) (k : Checked) → l ≡ m → k ≡ checked l ws → k ≡ checked m ws
checked_as l m ws k is e = e ∙ ap (λ (x : Limits). checked x ws) is

-- Limits that count the same: of the limits the check reads that on terms alone.
pub checked_same : (l m : Limits) → term_limit l ≡ term_limit m → (ws : List ℕ) → checked l ws ≡ checked m ws
unfolding checked
checked_same l m h [] = refl
checked_same l m h (w ∷ ws) = rw h
