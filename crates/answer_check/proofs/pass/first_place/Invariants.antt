use Rattle.answer_check.proofs.Words.{ℕ, ◌+◌, ◌<◌, is_marked, IsMarkedRight}
use Rattle.answer_check.proofs.pass.first_place.Given as goal

abbrev pub invariant-loop-i : goal.invariant-loop-i
invariant-loop-i g l = (k : ℕ) → k < l.i → IsMarkedRight (g.A.PathAlgebra.meaning l.algebra) l.by_head (g.L.VertexLines.list l.lines) (k + 1) (is_marked l.marks (k + 1))
