use Rattle.path_factors.proofs.Words.{take, AreOrigins}
use Rattle.path_factors.proofs.factors.Factors.at_sources.Given as goal

abbrev pub invariant-loop-s : goal.invariant-loop-s
invariant-loop-s g l = AreOrigins (g.A.PathAlgebra.meaning l.self.algebra) l.self.roads l.self.factor (take l.s-index l.sources) l.labels.items
