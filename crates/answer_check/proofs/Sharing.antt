-- What is judged may be shared among threads.
use Rattle.answer_check.proofs.Words.{NamedLft, IsSync, sendable, crosses}
use denote.RattleType.{RattleType}
use Rattle.road_graph.specs.contracts.out_graph.OutGraph as OutGraph
use Rattle.road_graph.specs.contracts.in_graph.InGraph as InGraph
use Rattle.road_files.specs.contracts.questions.Questions as Questions
use Rattle.path_algebra.specs.declared.algebra.PathAlgebra.{Ghosts}
use Rattle.answer_text.specs.contracts.answers.Answers as Answers
use Rattle.answer_check.specs.contracts.case.Case as Case

OutGraph-sync : IsSync OutGraph.the_row
OutGraph-sync = search (sendable, crosses) depth 40

InGraph-sync : IsSync InGraph.the_row
InGraph-sync = search (sendable, crosses) depth 40

Questions-sync : IsSync Questions.the_row
Questions-sync = search (sendable, crosses) depth 40

Answers-sync : IsSync Answers.the_row
Answers-sync = search (sendable, crosses) depth 60 fits 100000

pub Case-sync : (κ : NamedLft) (A V : RattleType) (h : Ghosts A.Denot V.Denot) → IsSync A → IsSync (Case.the_row κ A V h)
Case-sync κ A V h a = search (sendable, crosses, OutGraph-sync, InGraph-sync, Questions-sync, Answers-sync) depth 40
