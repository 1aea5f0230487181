use Rattle.path_factors.specs.Pruning.{AreThinTo}
use Rattle.path_factors.proofs.weighing.Weighing.thinned.Given as goal

abbrev pub invariant-loop-v : goal.invariant-loop-v
invariant-loop-v g l = AreThinTo (g.A.PathAlgebra.meaning l.self.algebra) (g.A.ComposingAlgebra.walks l.self.algebra) l.self.factor l.v l.rows
