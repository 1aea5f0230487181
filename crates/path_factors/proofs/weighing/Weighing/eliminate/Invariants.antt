use Rattle.path_factors.specs.State.{IsSameState}
use Rattle.path_factors.proofs.Eliminating.{Eliminated}
use Rattle.path_factors.proofs.weighing.Weighing.eliminate.Given as goal

abbrev pub invariant-loop-i : goal.invariant-loop-i
invariant-loop-i g l = record {
  same : IsSameState l.fn.self l.self;
  eliminated : Eliminated (g.A.ComposingAlgebra.walks l.fn.self.algebra) l.marks l.v l.fn.self.factor l.self.factor l.i;
}
