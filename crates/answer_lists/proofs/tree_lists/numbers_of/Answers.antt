use Rattle.answer_lists.proofs.Words.{ap, ◌∙◌, label_of, hops_of, parent_of, code_for, number_for}
use Rattle.answer_lists.proofs.Telling.{told_at}
use Rattle.answer_lists.proofs.tree_lists.numbers_of.Goals as goal

pub returns : goal.returns
returns g c =
    let a = c.args in let A = g.A.PathAlgebra.meaning a.algebra in
    told_at A c.laws_hold.ensures.lawful c.requires.low a.graph.now c.holds.ensures a.sources.now a.v (label_of a.solution.now.labels a.v) (hops_of a.solution.now.tree a.v) (parent_of a.solution.now.tree a.v)
    (c.labels_and_trees_agree.ensures a.graph.now a.sources.now a.solution.now.labels a.solution.now.tree c.requires.best c.requires.tree a.v c.requires.vertex)
    _ _ _ (c.code_for.ensures ∙ ap (code_for A) c.of.ensures) (c.hops_for.ensures ∙ ap number_for c.hops.ensures) (c.parent_for.ensures ∙ ap number_for c.parent.ensures)
