use Rattle.answer_check.proofs.Words.{◌≡◌, take, false, list_any, candidate, is_there}
use Rattle.answer_check.proofs.vertices.offers_some.Given as goal

abbrev pub invariant-loop-road : goal.invariant-loop-road
invariant-loop-road g l = list_any (λ r. is_there (candidate (g.A.PathAlgebra.meaning l.algebra) (g.L.VertexLines.list l.lines) r)) (take l.road-index l.roads) ≡ false
