use Rattle.path_factors.proofs.Words.{IsSome, CanHalt, IsBackwardFrom}
use Rattle.path_factors.proofs.factors.Factors.sweep_down.Given as goal

abbrev pub invariant-loop-i : goal.invariant-loop-i
invariant-loop-i g l = record {
  halt : CanHalt l.halt → IsSome l.stop;
  back : IsBackwardFrom (g.A.PathAlgebra.meaning l.self.algebra) (g.A.ComposingAlgebra.walks l.self.algebra) l.self.roads l.self.factor l.fn.labels l.i l.labels;
}
