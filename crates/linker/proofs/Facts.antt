-- WHAT HOLDS AT A TURN OF THE LINKS: record k is of one of the levels, its row fits, and the labels are still in order, whatever is stored of places and counts.
-- Assumes nothing.
use mathlib.Core.Path.{◌≡◌, sym, ap, subst, ◌∙◌}
use mathlib.Core.List.{List}
use Prim.Native.Nat.{ℕ, suc, ◌+◌, ◌*◌, ◌-◌, ◌≤◌, ◌<◌}
use native.Mathlib.Omega.{arith}
use lib.IntN.{ℤ}
use lib.ListN.{length, get_or, take, set}
use lib.Seq.{get_or-set_other}
use Rattle.word.specs.Record.{labelled, most_nodes, record_words, RecordsFit, record_at, first_word}
use Rattle.diagram.specs.Constraint.{most_terms, last_end, last_coefficient}
use Rattle.diagram.proofs.Entering.{times_few}
use Rattle.search_ordered.specs.Order.{Sorted}
use Rattle.word.proofs.Labels.{labels_kept, labelled_length}
use Rattle.constraint.specs.Lent.{Lent}
use Rattle.constraint.proofs.Slices.{rests_count, term_at}
use Rattle.linker.specs.Sum.{Levelled, Countable}
use Rattle.linker.specs.Row.{rows_of}
use Rattle.linker.specs.Counting.{entering_at, CountsFit}
use Rattle.linker.specs.Linked.{Finished}
use Rattle.linker.proofs.Laws.{sum_fits}
use Rattle.linker.proofs.Children.{ready}
use Rattle.linker.proofs.Turns.{OneEnd, one_end, rows_long, Turn, row_fits}

pub record Facts (cs ds rs : List ℕ) (count : ℕ) (t es : List ℕ) (first k : ℕ) : Type 0 where
  pub few : length cs ≤ most_terms
  pub ends_long : length ds ≡ length cs
  pub rests_long : length rs ≡ suc (length cs)
  pub countable : Countable ds t count
  pub here : OneEnd ds t k
  pub coef_small : get_or cs ((record_at t k).level - 1) 0 ≤ last_coefficient
  pub first_small : first ≤ (last_end + 1) * most_nodes
  pub fits : first + (get_or ds ((record_at t k).level - 1) 0 + 1) ≤ length es
  pub sorted : Sorted (labelled (set t (k * record_words + first_word) first) count)
  pub counts : CountsFit (set t (k * record_words + first_word) first) count

pub facts : {cs ds rs t₀ es₀ : List ℕ} {count : ℕ} {t es : List ℕ} {first k : ℕ} → Lent cs ds rs → (a : ℤ) × Finished cs ds a t₀ count es₀
    → Turn cs ds rs t₀ es₀ count t es first k → k < count → Facts cs ds rs count t es first k
facts {cs} {ds} {rs} {t₀} {es₀} {count} {t} {es} {first} {k} L p so h =
    let r = ready cs ds rs L p.0 t₀ count es₀ p.1 in
    let b = r.countable in
    let room : RecordsFit count t = omega (arith, b.room, so.long) in
    let labels_are : labelled t count ≡ labelled t₀ count = ap (take count) so.same in
    let now : Countable ds t count = record { few = b.few; room = room; ends = b.ends; levels = subst (Levelled (length ds)) (sym labels_are) b.levels } in
    let o : OneEnd ds t k = one_end now h in
    record {
      few = L.few;
      ends_long = L.ends;
      rests_long = rests_count cs ds rs L;
      countable = now;
      here = o;
      coef_small = (term_at cs ds rs L ((record_at t k).level - 1) (omega (arith, o.low, o.high, L.ends))).3;
      first_small = omega (arith, so.place, sum_fits ds (labelled t₀ count) b.ends b.levels, labelled_length t₀ count b.room, b.few);
      fits = row_fits cs ds rs t₀ es₀ count t es first k b.room so h r.wide;
      sorted = subst Sorted (sym (ap (take count) (labels_kept t k first_word first (omega arith) (omega arith)) ∙ labels_are)) r.sorted;
      counts = λ n l.
          rw (get_or-set_other t (k * record_words + first_word) (entering_at n) first 0 (λ q. omega arith))
          (omega (
            arith,
            so.counts n l,
            times_few n (rows_of cs ds rs (labelled t₀ count) (labelled t₀ count)),
            rows_long cs ds rs (labelled t₀ count) (labelled t₀ count),
            sum_fits ds (labelled t₀ count) b.ends b.levels,
            labelled_length t₀ count b.room,
            b.few,
          ));
    }
