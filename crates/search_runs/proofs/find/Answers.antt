-- `search_runs::find` meets its contract, by those of the two searches. Assumes nothing.
use mathlib.Core.Path.{sym, refl, ◌∙◌}
use native.Mathlib.Omega.{arith}
use Rattle.std.specs.Prelude.{Ok, Err}
use Rattle.finder.specs.Find.{find_in}
use Rattle.word.specs.Record.{labelled}
use Rattle.word.proofs.Labels.{labelled_length}
use Rattle.finder.proofs.Gap.{gap_most}
use Rattle.finder.proofs.Says.{find_says, nothing_gap}
use Rattle.search_runs.specs.Runs.{second_run}
use Rattle.search_runs.proofs.Views.{run_length, run_words_lem}
use Rattle.search_runs.proofs.Finding.{find_runs}
use Rattle.search_runs.proofs.find.Goals as goal

pub invariant_of-find_sorted : goal.invariant_of-find_sorted
invariant_of-find_sorted c =
    let t = c.args.table.now in
    let m = c.args.main in
    let n = c.args.count in
    record { sorted = rw (run_words_lem t m n c.requires.0) c.requires.3 }

pub overflow_add-number : goal.overflow_add-number
overflow_add-number c =
    let t = c.args.table.now in
    let m = c.args.main in
    let n = c.args.count in
    let found = rw (run_words_lem t m n c.requires.0) at c.find_sorted.ensures in
    let says = find_says (second_run t m n) c.args.level c.args.r.0 c.in-Ok-find_sorted.k.0 (sym found ∙ c.in-Ok-find_sorted.is) in
    omega (arith, says.0, run_length t m n c.requires.0 c.requires.1)

pub overflow_add-gap : goal.overflow_add-gap
overflow_add-gap c =
    let t = c.args.table.now in
    let m = c.args.main in
    let n = c.args.count in
    let level = c.args.level in
    let r = c.args.r.0 in
    let a = nothing_gap (labelled t m) level r c.in-Err.first (sym c.find_near.ensures ∙ c.in-Err.is) in
    let b = nothing_gap (second_run t m n) level r c.in-Err-find_sorted.second (sym (rw (run_words_lem t m n c.requires.0) at c.find_sorted.ensures) ∙ c.in-Err-find_sorted.is) in
    let mid = c.requires.0 in
    omega (arith, a, b, gap_most (labelled t m) level r, gap_most (second_run t m n) level r, labelled_length t m (omega (arith, c.requires.1)), run_length t m n mid c.requires.1)

pub returns-in-Ok : goal.returns-in-Ok
returns-in-Ok c =
    let t = c.args.table.now in
    let g = find_in (second_run t c.args.main c.args.count) c.args.level c.args.r.0 in
    find_runs t c.args.main c.args.count c.requires.0 c.requires.1 c.args.level c.args.r.0 (Ok (record { 0 = c.in-Ok.k.0 })) g
    (sym c.in-Ok.is ∙ c.find_near.ensures) refl

pub returns-in-Ok-find_sorted : goal.returns-in-Ok-find_sorted
returns-in-Ok-find_sorted c =
    let t = c.args.table.now in
    find_runs t c.args.main c.args.count c.requires.0 c.requires.1 c.args.level c.args.r.0 (Err c.in-Err.first) (Ok (record { 0 = c.in-Ok-find_sorted.k.0 }))
    (sym c.in-Err.is ∙ c.find_near.ensures)
    (sym c.in-Ok-find_sorted.is ∙ rw (run_words_lem t c.args.main c.args.count c.requires.0) at c.find_sorted.ensures)

pub returns-in-Err-find_sorted : goal.returns-in-Err-find_sorted
returns-in-Err-find_sorted c =
    let t = c.args.table.now in
    find_runs t c.args.main c.args.count c.requires.0 c.requires.1 c.args.level c.args.r.0 (Err c.in-Err.first) (Err c.in-Err-find_sorted.second)
    (sym c.in-Err.is ∙ c.find_near.ensures)
    (sym c.in-Err-find_sorted.is ∙ rw (run_words_lem t c.args.main c.args.count c.requires.0) at c.find_sorted.ensures)
