-- `clause_buffer::write_units` meets its contract: three clauses, one behind the other.
-- Assumes nothing.
use mathlib.Core.Path.{ap, ◌∙◌}
use mathlib.Core.Bool.{true, false}
use Rattle.word.specs.Word.{literal_word}
use Rattle.word.specs.Edge.{edge_of}
use Rattle.clause_buffer.proofs.Writing.{wrote_words_as, wrote_words_then}
use Rattle.clause_buffer.proofs.Turns.{units_are}
use Rattle.clause_buffer.proofs.write_units.Goals as goal

pub returns : goal.returns
returns c =
    let args = c.args in
    let first = c.literal-t.ensures ∙ ap (literal_word true) c.child_variable.ensures in
    let second = c.literal-f.ensures ∙ ap (literal_word false) c.child_variable-2.ensures in
    let third = c.literal-r.ensures ∙ ap (literal_word true) c.child_variable-3.ensures in
    wrote_words_as (units_are args.orders (edge_of args.root) first second third)
    (wrote_words_then c.put_clause-second.ensures (wrote_words_then c.put_clause-third.ensures c.put_clause.ensures))
