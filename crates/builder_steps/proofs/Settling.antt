-- THE RUNS THROUGH SETTLING. Assumes nothing.
use mathlib.Core.Path.{sym, subst}
use mathlib.Core.Logic.{◌↔◌}
use mathlib.Core.List.{List}
use Prim.Native.Nat.{ℕ}
use Rattle.word.specs.Record.{Record, labelled, Among}
use Rattle.finder.specs.Find.{Missing}
use Rattle.search_runs.specs.Runs.{second_run, Settled}
use Rattle.search_runs.proofs.Members.{among_right}
use Rattle.search_runs.proofs.Views.{both_runs_lem, both_used, used_both, settled_both}
use Rattle.builder_steps.specs.Put.{Two}

-- Settling keeps the runs in order and the records the same.
pub settled_same : (t : List ℕ) (m count w : ℕ) (t' : List ℕ) (k : ℕ) → Two t m count w → Settled t m count w t' k
    → Two t' k count w × ((x : Record) → Among x (labelled t' count) ↔ Among x (labelled t count))
settled_same t m count w t' k two S =
    let v = settled_both t m count w t' k two.runs two.apart S in (
      record { runs = v.0; apart = v.1 },
      λ x. (
        λ a. used_both t m count w two.runs x (subst (Among x) v.2 (both_used t' k count w v.0 x a)),
        λ a. used_both t' k count w v.0 x (subst (Among x) (sym v.2) (both_used t m count w two.runs x a)),
      ),
    )

-- Where no record holds a remainder, none of the second run does after settling.
pub settled_missing : (t : List ℕ) (m count w : ℕ) (t' : List ℕ) (k : ℕ) → Two t m count w → Settled t m count w t' k → (level r : ℕ)
    → Missing (labelled t count) level r → Missing (second_run t' k count) level r
settled_missing t m count w t' k two S level r none x a =
    let whole = both_runs_lem t' k count S.within in
    none x (((settled_same t m count w t' k two S).1 x).0 (subst (Among x) (sym whole) (among_right (labelled t' k) (second_run t' k count) x a)))
