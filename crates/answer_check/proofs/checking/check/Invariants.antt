use Rattle.answer_check.proofs.Words.{asked_of, answer_list}
use Rattle.answer_check.proofs.FirstWrong.{AreRightUpTo}
use Rattle.answer_check.proofs.checking.check.Given as goal

abbrev pub invariant-loop-i : goal.invariant-loop-i
invariant-loop-i g l = AreRightUpTo (g.A.PathAlgebra.meaning l.fn.algebra) l.graph (asked_of l.questions).questions (answer_list l.answers).list l.i
