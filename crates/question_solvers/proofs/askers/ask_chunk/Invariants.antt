use Rattle.question_solvers.proofs.Words.{◌≡◌, AreFoundIn}
use Rattle.question_solvers.proofs.askers.ask_chunk.Given as goal

abbrev pub invariant-loop-place : goal.invariant-loop-place
invariant-loop-place g l = record {
  same : l.asker.factors ≡ l.factored.factors.now;
  each : AreFoundIn g.A.PathAlgebra.meaning l.factored.over.now l.found.items;
}
