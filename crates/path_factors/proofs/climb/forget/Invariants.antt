use Rattle.path_factors.proofs.Climbing.{IsForgotten}
use Rattle.path_factors.proofs.climb.forget.Given as goal

abbrev pub invariant-loop-i : goal.invariant-loop-i
invariant-loop-i g l = IsForgotten l.asked l.i-index l.fn.labels l.fn.known l.labels l.known
