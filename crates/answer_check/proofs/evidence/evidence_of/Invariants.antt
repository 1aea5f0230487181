use Rattle.answer_check.proofs.Words.{◌≡◌, take, all_evidence}
use Rattle.answer_check.proofs.evidence.evidence_of.Given as goal

abbrev pub invariant-loop-road : goal.invariant-loop-road
invariant-loop-road g l = l.evidence ≡ all_evidence (g.A.PathAlgebra.meaning l.algebra) g.A.PathAlgebra.order (g.L.VertexLines.list l.lines) l.line l.value (take l.road-index l.roads)
