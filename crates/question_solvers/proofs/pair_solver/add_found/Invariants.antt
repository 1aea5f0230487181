use Rattle.question_solvers.specs.Tasks.{AreFoundIn, HaveFoundIn, IsPoolIn}
use Rattle.question_solvers.proofs.pair_solver.add_found.Given as goal

abbrev pub invariant-loop-k : goal.invariant-loop-k
invariant-loop-k g l = record {
  pool : IsPoolIn l.over l.group;
  found : HaveFoundIn g.A.PathAlgebra.meaning l.over l.group;
  ahead : AreFoundIn g.A.PathAlgebra.meaning l.over l.ahead.items;
}
