use Rattle.path_factors.specs.State.{IsSameState}
use Rattle.path_factors.proofs.Eliminating.{EliminatedTo}
use Rattle.path_factors.proofs.weighing.Weighing.eliminate_all.Given as goal

abbrev pub invariant-loop-v : goal.invariant-loop-v
invariant-loop-v g l = record {
  same : IsSameState l.fn.self l.self;
  eliminated : EliminatedTo (g.A.ComposingAlgebra.walks l.fn.self.algebra) l.marks l.fn.self.factor l.self.factor l.v;
}
