use Rattle.std.proofs.Common.{◌∙◌, sym}
use Rattle.std.proofs.lemmas.Result.{IfOk-weaker}
use Rattle.answer_lists.proofs.Judged.{tree_judged}
use Rattle.answer_lists.proofs.Spelled.{lines_count}
use Rattle.answer_lists.proofs.judging.judge.Goals as goal

pub first_wrong_line-requires-clause-count : goal.first_wrong_line-requires-clause-count
first_wrong_line-requires-clause-count g c κs within =
    let l = c.args.tree.now in let (n, m, k) = c.requires.places in lines_count l.codes.now l.hops.now l.parents.now (m ∙ sym n) (k ∙ sym n) ∙ n

pub returns : goal.returns
returns g c =
    let a = c.args in
    let listed = c.deref.ensures.value ∙ c.in_ok-list.ensures in
    let judged = rw listed at c.first_wrong_line.ensures in
    IfOk-weaker c.first_wrong_line.result _ _ (tree_judged (g.A.PathAlgebra.meaning a.algebra) c.laws_hold.ensures.lawful a.by_head.now c.holds.ensures a.tree.now.sources.now c.requires.sources
    a.tree.now.codes.now a.tree.now.hops.now a.tree.now.parents.now c.requires.places) judged
