use Rattle.question_solvers.proofs.Words.{◌≡◌, length, subst, sym, ForSome, GraphData}
use Rattle.question_solvers.proofs.FactorCosts.{kept}
use Rattle.question_solvers.proofs.factor_solver.FactorSolver.new.Goals as goal

pub invariant_of-result : goal.invariant_of-result
invariant_of-result g c = record {
  each = subst (λ (graph : GraphData). ForSome c.args.order (λ o. length o.vertices.items ≡ graph.vertices)) (sym c.new.ensures)
      (kept (λ o. length o.vertices.items ≡ c.args.graph.vertices) c.args.order c.requires);
  ordered = λ x e. cc;
  of_graph = λ x e. cc;
  heavy = λ x e. cc;
  dense = λ x e. cc;
}
