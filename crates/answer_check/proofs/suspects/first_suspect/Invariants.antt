use Rattle.answer_check.proofs.Words.{◌≡◌, false, asked_of, answer_list, TellsSuspectIn}
use Rattle.answer_check.proofs.suspects.first_suspect.Given as goal

-- the searcher is of the graph, by the algebra, and the answers before this one are right
abbrev pub invariant-loop-i : goal.invariant-loop-i
invariant-loop-i g l = record {
  algebra : l.searcher.algebra ≡ l.case.algebra;
  roads : l.searcher.roads ≡ l.case.graph.now;
  right : TellsSuspectIn (g.A.PathAlgebra.meaning l.case.algebra) l.case.graph.now (asked_of l.case.questions.now) (answer_list l.case.answers.now) l.start l.i false;
}
