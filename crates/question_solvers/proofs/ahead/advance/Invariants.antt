use Rattle.question_solvers.proofs.Words.{length, AreFoundIn}
use Rattle.question_solvers.proofs.ahead.advance.Given as goal

abbrev pub invariant-loop-next : goal.invariant-loop-next
invariant-loop-next g l = AreFoundIn g.A.PathAlgebra.meaning l.over l.ahead.items

abbrev pub decreases-loop-next : goal.decreases-loop-next
decreases-loop-next g l = length l.ahead.items
