use Rattle.batch_run.proofs.Words.{sym, subst, ap, List, ℕ, All, HasVertex, FromSource, AreBest, IsTree}
use Rattle.road_files.specs.Asked.{asked_of}
use Rattle.road_files.proofs.QuestionLaws.{asked_within, pair_at}
use Rattle.question_solvers.proofs.QuestionKinds.{found_answers, no_pairs, pair_asked}
use Rattle.batch_run.proofs.Ahead.{solved_ahead}
use Rattle.batch_run.proofs.solve.workers.solve_by_labels.Goals as goal

pub unreachable-requires : goal.unreachable-requires
unreachable-requires g c = let known = c.requires.by_head (ap (λ q. (asked_of q).kind) c.in-Pairs.is) in cc

pub route_between-requires-clause-by_head : goal.route_between-requires-clause-by_head
route_between-requires-clause-by_head g c κs within =
    rw c.outgoing-graph.ensures (let known = c.requires.by_head (ap (λ q. (asked_of q).kind) c.in-Pairs.is) in let is = c.in-Some.is in cc)

pub route_between-requires-clause-labels : goal.route_between-requires-clause-labels
route_between-requires-clause-labels g c κs within =
    rw c.outgoing-graph.ensures (subst (λ (vs : List ℕ). AreBest (g.A.PathAlgebra.meaning c.args.over.now.batch.now.task.algebra) c.args.over.now.graph.now vs c.in-Labels.labels)
    (pair_at c.args.over.now.batch.now.task.questions.now c.args.i c.in-Pairs.pairs c.index.result.now c.in-Pairs.is c.requires.place c.index.ensures (FromSource 0)) (rw c.in-Labels.is at (c.requires.labels (FromSource 0))))

pub tree_outgoing-requires-clause-sources : goal.tree_outgoing-requires-clause-sources
tree_outgoing-requires-clause-sources g c κs within =
    rw c.outgoing.ensures (subst (λ (vs : List ℕ). All (HasVertex c.args.over.now.graph.now) vs) (sym (c.sources-sources.ensures (FromSource 0)))
    (asked_within c.args.over.now.graph.now.vertices c.args.over.now.batch.now.task.questions.now c.args.i c.args.over.now.within c.requires.place (FromSource 0)).1)

pub tree_outgoing-requires-clause-labels : goal.tree_outgoing-requires-clause-labels
tree_outgoing-requires-clause-labels g c κs within =
    rw c.outgoing.ensures (subst (λ (vs : List ℕ). AreBest (g.A.PathAlgebra.meaning c.args.over.now.batch.now.task.algebra) c.args.over.now.graph.now vs c.in-Labels.labels)
    (sym (c.sources-sources.ensures (FromSource 0))) (rw c.in-Labels.is at (c.requires.labels (FromSource 0))))

pub returns-in_ok-found-in-Pairs : goal.returns-in_ok-found-in-Pairs
returns-in_ok-found-in-Pairs g c =
    let q = c.args.over.now.batch.now.task.questions.now in
    λ d. found_answers _ _ _ _ c.in_ok-found-in-Pairs.found _ (pair_asked q c.args.i c.in-Pairs.pairs c.index.result.now c.in-Pairs.is c.requires.place c.index.ensures d)
    (rw c.outgoing-graph.ensures at c.in_ok-found-in-Pairs.ensures)

pub returns-in_ok-tree-in_default : goal.returns-in_ok-tree-in_default
returns-in_ok-tree-in_default g c = λ d. record {
  labels = rw c.in-Labels.is at (c.requires.labels d);
  tree = subst (λ (vs : List ℕ). IsTree (g.A.PathAlgebra.meaning c.args.over.now.batch.now.task.algebra) c.args.over.now.graph.now vs c.in_ok-tree-in_default.tree)
      (c.sources-sources.ensures d) (rw c.outgoing.ensures at c.in_ok-tree-in_default.ensures);
  unpaired = no_pairs c.args.over.now.batch.now.task.questions.now c.in_default.not-Pairs;
}

pub returns-in-Solved : goal.returns-in-Solved
returns-in-Solved g c = λ d.
    solved_ahead c.args.over.now.batch.now.task.questions.now c.args.i c.requires.place d _ _ c.in-Solved.solved (rw c.in-Solved.is at (c.requires.labels d))
