use Rattle.question_solvers.proofs.Words.{◌≤◌, length, IsPoolIn}
use Rattle.question_solvers.proofs.pair_solver.grow.Given as goal

abbrev pub invariant-loop-k : goal.invariant-loop-k
invariant-loop-k g l = record {
  pool : IsPoolIn l.over l.pool.items;
  long : l._k ≤ length l.pool.items;
}
