-- `clause_writer::write` meets its contract: the three groups are written one behind the other, from what lent memory holds, which is the drawing.
-- Assumes nothing.
use mathlib.Core.Path.{sym}
use native.Mathlib.Omega.{arith}
use Rattle.clause_buffer.proofs.Writing.{wrote_words_as, wrote_words_then, room_first, room_then}
use Rattle.clause_writer.proofs.Reading.{groups, later_groups, booleans, drawn_held, room, listed}
use Rattle.clause_writer.proofs.write.Goals as goal

pub write_levels-second-requires : goal.write_levels-second-requires
write_levels-second-requires c =
    let d = c.requires.drawing in
    let out = c.args.out.now in
    record {
      numbers = omega (arith, booleans d, d.numbers);
      room = room_first 0 out (groups d) (room d out c.requires.fits);
    }

pub write_units-third-requires : goal.write_units-third-requires
write_units-third-requires c =
    let d = c.requires.drawing in
    let levels = c.write_levels-second in
    let left = room_then (groups d) levels.ensures (room d c.args.out.now c.requires.fits) in record {
      numbers = omega (arith, d.numbers);
      known = omega (arith, d.root, d.numbers, d.counted);
      room = room_first levels.result levels.new.out (later_groups d) left;
    }

pub write_nodes-requires : goal.write_nodes-requires
write_nodes-requires c =
    let d = c.requires.drawing in
    let left = room_then (groups d) c.write_levels-second.ensures (room d c.args.out.now c.requires.fits) in
    record {
      held = drawn_held d;
      room = room_then (later_groups d) c.write_units-third.ensures left;
    }

pub returns : goal.returns
returns c =
    λ ls ns d. (
    let all = wrote_words_then c.write_levels-second.ensures (wrote_words_then c.write_units-third.ensures c.write_nodes.ensures) in
    listed d (wrote_words_as (sym (groups d).joined) all)
    )
