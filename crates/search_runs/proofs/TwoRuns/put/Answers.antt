-- `TwoRuns::put` meets its contract, by those of the finder, whose reply has the gap, and of the insertion. Assumes nothing.
use Prim.Native.Nat.{◌*◌, ◌-◌}
use mathlib.Core.Path.{sym, ◌∙◌}
use native.Mathlib.Omega.{arith}
use lib.ListN.{length, take, drop}
use Rattle.word.specs.Record.{labelled, record_words}
use Rattle.word.proofs.Labels.{labelled_length}
use Rattle.finder.proofs.Gap.{gap_most}
use Rattle.finder.proofs.Says.{nothing_gap, missing_nothing, not_both}
use Rattle.search_runs.specs.Runs.{second_run}
use Rattle.search_runs.proofs.Putting.{tail_length, tail_used, put_second}
use Rattle.search_runs.proofs.TwoRuns.put.Goals as goal

pub invariant_of-find_near : goal.invariant_of-find_near
invariant_of-find_near c =
    let t = c.args.self.now.table.now in
    record { sorted = rw (tail_used t c.args.self.now.main c.args.self.now.count c.args.self.now.fits.0 c.requires.room) c.requires.second.0 }

pub returns-in_default-clause-put : goal.returns-in_default-clause-put
returns-in_default-clause-put c =
    let t = c.args.self.now.table.now in
    let m = c.args.self.now.main in
    let n = c.args.self.now.count in
    let reply = rw (tail_used t m n c.args.self.now.fits.0 c.requires.room) at c.find_near.ensures in
    absurd (not_both _ _ (sym c.in_default.is ∙ reply ∙ missing_nothing (second_run t m n) c.args.level c.args.r.0 c.requires.second.1))

pub returns-in_default-clause-counts : goal.returns-in_default-clause-counts
returns-in_default-clause-counts c =
    let t = c.args.self.now.table.now in
    let m = c.args.self.now.main in
    let n = c.args.self.now.count in
    let reply = rw (tail_used t m n c.args.self.now.fits.0 c.requires.room) at c.find_near.ensures in
    absurd (not_both _ _ (sym c.in_default.is ∙ reply ∙ missing_nothing (second_run t m n) c.args.level c.args.r.0 c.requires.second.1))

pub insert-requires : goal.insert-requires
insert-requires c =
    let t = c.args.self.now.table.now in
    let m = c.args.self.now.main in
    let n = c.args.self.now.count - m in
    let tail = take (length t - m * record_words) (drop (m * record_words) t) in
    let long = tail_length t m c.args.self.now.count c.args.self.now.fits.0 c.requires.room in
    let gap = nothing_gap (labelled tail n) c.args.level c.args.r.0 c.in-Err.gap (sym c.find_near.ensures ∙ c.in-Err.is) in
    (omega (arith, gap, gap_most (labelled tail n) c.args.level c.args.r.0, labelled_length tail n (omega arith)), omega arith)

pub returns-clause-put : goal.returns-clause-put
returns-clause-put c =
    let t = c.args.self.now.table.now in
    let m = c.args.self.now.main in
    let tail = take (length t - m * record_words) (drop (m * record_words) t) in
    put_second t m c.args.self.now.count c.args.self.now.fits.0 c.requires.room c.args.level c.args.r.0 c.args.lower c.args.upper
    c.in-Err.gap c.insert.new.table
    (nothing_gap (labelled tail (c.args.self.now.count - m)) c.args.level c.args.r.0 c.in-Err.gap (sym c.find_near.ensures ∙ c.in-Err.is))
    c.insert.ensures.0 c.insert.ensures.1 c.insert.auto.table
