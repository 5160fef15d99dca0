-- `encoder_levels::finish` meets its contract: the first test that fails decides, by the counts. Assumes nothing.
use Rattle.std.proofs.Common.{Ok}
use mathlib.Core.Path.{ap, sym, ◌∙◌}
use native.Mathlib.Omega.{arith}
use Rattle.encoder_levels.proofs.Answers.{refuse_7, refuse_8, accept, refused_answer, accepted_answer, countable, ends_le, nodes_fit, counts_are, same_nodes, same_edges, same_words, roomy, renumbered}
use Rattle.encoder_levels.proofs.finish.Goals as goal

pub count-counts-requires : goal.count-counts-requires
count-counts-requires c = record {
  countable = countable c.args.levels.lent c.requires.1;
  ends_len_bound = ends_le c.args.levels.lent c.requires.1;
}

pub returns-then-lists-counts-clause-answered : goal.returns-then-lists-counts-clause-answered
returns-then-lists-counts-clause-answered c =
    let n = c.count-counts.ensures in
    λ l a h B. let is = n ∙ counts_are c.args.levels.lent B in
    refused_answer l _ _ _ _ _ _ _ _ _ (refuse_7 l _ _ _ _ (nodes_fit c.args.levels.lent B l h) (omega (arith, same_edges is)))
    c.refuse.ensures.cleared

pub returns-then-lists-counts-2-clause-answered : goal.returns-then-lists-counts-2-clause-answered
returns-then-lists-counts-2-clause-answered c =
    let n = c.count-counts.ensures in
    λ l a h B. let is = n ∙ counts_are c.args.levels.lent B in
    refused_answer l _ _ _ _ _ _ _ _ _ (refuse_8 l _ _ _ _ (nodes_fit c.args.levels.lent B l h) (omega (arith, same_edges is)) (omega (arith, same_words is)))
    c.refuse-then-lists-counts-2.ensures.cleared

pub fill-requires : goal.fill-requires
fill-requires c =
    let n = c.count-counts.ensures in
    let p = c.requires in
    (p.0, renumbered _ _ _ _ (same_nodes n) p.1, roomy _ _ _ _ (n ∙ counts_are c.args.levels.lent p.1) (omega arith) (omega arith))

pub returns-clause-answered : goal.returns-clause-answered
returns-clause-answered c =
    let n = c.count-counts.ensures in
    λ l a h B. let is = n ∙ counts_are c.args.levels.lent B in
    let m = roomy _ _ c.args.lists.now.edges.now c.args.lists.now.clauses.now is (omega arith) (omega arith) in
    accepted_answer l _ _ _ _ _ _ _ _
    (accept l _ _ _ _ (nodes_fit c.args.levels.lent B l h) m.wide m.long ∙ ap Ok (sym is))
    (c.fill.ensures.filled a (renumbered _ _ _ _ (same_nodes n) B) m)
