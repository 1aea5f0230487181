use Rattle.question_solvers.proofs.Words.{refl, sym, subst, List, ℕ, HasVertex, FromSource, asked_within, AreBest, IsTree}
use Rattle.std.specs.List.{All}
use Rattle.question_solvers.proofs.side_by_side.search.Goals as goal

pub solve_with_tree-requires-after_bounds : goal.solve_with_tree-requires-after_bounds
solve_with_tree-requires-after_bounds g c κs within =
    subst (λ (vs : List ℕ). All (HasVertex c.args.over.now.graph.now) vs) (sym (c.sources-sources.ensures (FromSource 0)))
    (asked_within c.args.over.now.graph.now.vertices c.args.over.now.task.now.questions.now c.args.place c.args.over.now.within c.requires.place (FromSource 0)).1

pub returns : goal.returns
returns g c =
    let A = g.A.PathAlgebra.meaning c.args.over.now.task.now.algebra in
    record {
      place = refl;
      solved = λ d. record {
        labels = subst (λ (vs : List ℕ). AreBest A c.args.over.now.graph.now vs c.in_ok-labels.labels) (c.sources-sources.ensures d) c.in_ok-labels.ensures.labels;
        tree = subst (λ (vs : List ℕ). IsTree A c.args.over.now.graph.now vs c.in_ok-labels.tree) (c.sources-sources.ensures d) c.in_ok-labels.ensures.tree;
        unpaired = c.requires.unpaired;
      };
    }
