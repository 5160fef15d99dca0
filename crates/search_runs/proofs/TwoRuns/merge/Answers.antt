-- `TwoRuns::merge` meets its contract, by those of copying and of merging from the end. Assumes nothing.
use native.Mathlib.Omega.{arith}
use Rattle.search_runs.proofs.Views.{run_copied}
use Rattle.search_runs.proofs.TwoRuns.merge.Goals as goal

pub merge_back-requires : goal.merge_back-requires
merge_back-requires c =
    let copied = c.copy_words in
    (c.args.self.now.fits.0, c.args.self.now.fits.1, omega (arith, copied.auto.to, c.requires), run_copied c.args.self.now.table.now c.args.self.now.main c.args.self.now.count c.args.self.now.fits.0 c.args.self.now.fits.1 copied.new.to c.args.self.now.work.now copied.ensures)
