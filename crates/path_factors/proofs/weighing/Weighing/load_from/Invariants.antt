use Rattle.path_factors.specs.State.{IsSameState}
use Rattle.path_factors.proofs.Loading.{Loaded}
use Rattle.path_factors.proofs.weighing.Weighing.load_from.Given as goal

abbrev pub invariant-loop-road : goal.invariant-loop-road
invariant-loop-road g l = record {
  same : IsSameState l.fn.self l.self;
  loaded : Loaded (g.A.ComposingAlgebra.walks l.fn.self.algebra) l.marks l.tail l.road-items l.fn.self.factor l.self.factor l.road-index;
}
