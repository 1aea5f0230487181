use Rattle.question_solvers.proofs.Words.{◌∙◌, refl, sym, subst, List, ℕ, GraphData, HasVertex, FromSource, asked_within, AreBest, IsTree}
use Rattle.std.specs.List.{All}
use Rattle.question_solvers.proofs.factors.sweep.Goals as goal

pub solve_with_tree-requires-clause-sources : goal.solve_with_tree-requires-clause-sources
solve_with_tree-requires-clause-sources g c κs within =
    let factored = c.args.factored.now in
    let over = factored.over.now in
    subst (λ (graph : GraphData). All (HasVertex graph) c.sources-sources.result.now) (sym factored.same ∙ factored.own)
    (subst (λ (vs : List ℕ). All (HasVertex over.graph.now) vs) (sym (c.sources-sources.ensures (FromSource 0)))
    (asked_within over.graph.now.vertices over.task.now.questions.now c.args.place over.within c.requires.place (FromSource 0)).1)

pub returns : goal.returns
returns g c =
    let factored = c.args.factored.now in
    let A = g.A.PathAlgebra.meaning factored.over.now.task.now.algebra in
    let graph = factored.over.now.graph.now in
    let found = c.in_ok-labels in
    let own = sym factored.own ∙ factored.same in
    record {
      place = refl;
      solved = λ d. record {
        labels = subst (λ (vs : List ℕ). AreBest A graph vs found.labels) (c.sources-sources.ensures d)
            (subst (λ (x : GraphData). AreBest A x c.sources-sources.result.now found.labels) own found.ensures.labels);
        tree = subst (λ (vs : List ℕ). IsTree A graph vs found.tree) (c.sources-sources.ensures d)
            (subst (λ (x : GraphData). IsTree A x c.sources-sources.result.now found.tree) own found.ensures.tree);
        unpaired = c.requires.unpaired;
      };
    }
