use Rattle.path_factors.proofs.Words.{heads_in, AreParentsTo}
use Rattle.path_factors.proofs.weighing.Weighing.parents.Given as goal

abbrev pub invariant-loop-v : goal.invariant-loop-v
invariant-loop-v g l = AreParentsTo (heads_in l.self.factor.leaving) l.self.roads.vertices l.v l.parents.items
