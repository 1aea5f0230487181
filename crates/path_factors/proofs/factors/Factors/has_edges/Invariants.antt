use Rattle.path_factors.specs.Heads.{IsHead}
use Rattle.path_factors.proofs.Joining.{JoinedTo}
use Rattle.path_factors.proofs.factors.Factors.has_edges.Given as goal

abbrev pub invariant-loop-i : goal.invariant-loop-i
invariant-loop-i g l = JoinedTo (IsHead l.self.heads) l.self.factor.places l.graph l.i
