use Rattle.post_floor.proofs.Words.{IfSome, IsTrue, IsBestShown}
use Rattle.post_floor.proofs.hints.best_of_others.Given as goal

abbrev pub invariant-loop-shard : goal.invariant-loop-shard
invariant-loop-shard g l = record {
  value : IfSome l.best (λ x. IsTrue ((g.A.PathAlgebra.meaning l.algebra).is_value x));
  best : IsBestShown (g.A.PathAlgebra.meaning l.algebra) (g.H.HintSource.may_show l.hints) l.shard l.fn.own l.best;
}
