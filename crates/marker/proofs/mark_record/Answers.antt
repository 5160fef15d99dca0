-- `marker::mark_record` meets its contract: by the bound of the record, whose levels are those of the constraint that the words state. Assumes nothing.
use Rattle.constraint_words.specs.Reading.{stated}
use Rattle.limits.specs.Limits.{main_limits}
use Rattle.constraint_words.proofs.Laws.{checked_within}
use Rattle.marker.proofs.Stated.{judged_stated, judged_below}
use Rattle.marker.proofs.mark_record.Goals as goal

pub levels-requires : goal.levels-requires
levels-requires c = (stated c.requires.0, checked_within main_limits c.requires.0 c.requires.1, c.requires.2)

pub returns-in-Negative : goal.returns-in-Negative
returns-in-Negative c = λ ws ok is. judged_below ws ok c.args.c is c.in-Negative.is _ _ _ c.mark_below.ensures

pub returns-in-Natural : goal.returns-in-Natural
returns-in-Natural c = λ ws ok is.
    judged_stated ws ok c.args.c is _ _ (c.levels.ensures (stated ws) is (checked_within main_limits ws ok)) _ c.in-Natural.is _ _ _ c.mark_levels.ensures
