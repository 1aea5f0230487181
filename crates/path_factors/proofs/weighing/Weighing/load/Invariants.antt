use Rattle.path_factors.specs.State.{IsSameState}
use Rattle.path_factors.proofs.Loading.{LoadedTo}
use Rattle.path_factors.proofs.weighing.Weighing.load.Given as goal

abbrev pub invariant-loop-i : goal.invariant-loop-i
invariant-loop-i g l = record {
  same : IsSameState l.fn.self l.self;
  loaded : LoadedTo (g.A.ComposingAlgebra.walks l.fn.self.algebra) l.marks l.fn.self.roads l.fn.self.factor l.self.factor l.i;
}
