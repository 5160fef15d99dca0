-- `encoder_levels::encode_levels` meets its contract: what is drawn finds no room, or the lists are filled from it. Assumes nothing.
use Rattle.encoder_levels.proofs.Tables.{bound_of_some, recounted, full_answer}
use Rattle.encoder_levels.proofs.encode_levels.Goals as goal

pub finish-requires : goal.finish-requires
finish-requires c =
    let z = bound_of_some c.args.bound in
    let d = rw c.in-Some.is at (c.draw.ensures z.0 z.1) in
    (z.0, recounted _ _ _ _ c.requires d.1)

pub returns-in_default-clause-answered : goal.returns-in_default-clause-answered
returns-in_default-clause-answered c =
    λ a e.
    let d = rw c.in_default.is at (c.draw.ensures a e) in
    full_answer c.args.limits c.args.levels.coefficients.now c.args.levels.ends.now a c.args.lists.now.table.now _ _ c.args.lists.now.clauses.now _ _ _ _ _ d c.draw.auto.table c.draw.auto.clauses c.refuse.ensures.cleared
