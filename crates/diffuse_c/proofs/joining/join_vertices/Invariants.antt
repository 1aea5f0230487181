use Rattle.diffuse_c.proofs.Words.{take, All}
use Rattle.diffuse_c.proofs.LentArcs.{FitsIn}
use Rattle.diffuse_c.proofs.joining.join_vertices.Given as goal

abbrev pub invariant-loop-arc : goal.invariant-loop-arc
invariant-loop-arc l = All (FitsIn l.n) (take l.arc-index l.arcs)
