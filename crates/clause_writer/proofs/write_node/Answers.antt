-- `clause_writer::write_node` meets its contract: each child's clause is put behind those that are in. Assumes nothing.
use mathlib.Core.Path.{sym, ap, ◌∙◌}
use mathlib.Core.Bool.{false}
use Prim.Native.Nat.{◌<◌}
use native.Mathlib.Omega.{arith}
use lib.ListN.{length}
use Rattle.word.specs.Word.{boolean, literal_word}
use Rattle.clause_buffer.proofs.Writing.{wrote_words_as, wrote_words_then, words_left_less, words_left_none}
use Rattle.clause_writer.proofs.Turns.{node_turn, children_turn, children_none}
use Rattle.clause_writer.proofs.write_node.Goals as goal

pub loop-j-preserved : goal.loop-j-preserved
loop-j-preserved c =
    let h : c.loop-j.j < length c.args.edges.now = omega arith in
    let args = c.args in
    let w = c.literal-n.ensures ∙ ap (literal_word false) c.node_variable.ensures in
    let e =
    children_turn args.orders args.node.0 args.earlier args.edges.now c.loop-j.j c.requires.numbers w h
    c.literal-b.ensures c.child_literal-in-loop-j.ensures in
    words_left_less e c.loop-j.invariant c.put_clause-at-in-loop-j.ensures

pub returns : goal.returns
returns c =
    let args = c.args in
    let w = c.literal-n.ensures ∙ ap (literal_word false) c.node_variable.ensures in
    let e =
    node_turn args.orders args.node.0 args.earlier args.edges.now c.requires.numbers w c.requires.some c.child_literal.ensures in
    let done = children_none args.orders (boolean c.literal-n.result) args.earlier args.edges.now c.loop-j.j (omega arith) in
    wrote_words_as (sym e.joined) (wrote_words_then c.put_clause-at.ensures (words_left_none done c.loop-j.invariant))
