use Rattle.arc_numbers.proofs.Following.{Follows}
use Rattle.arc_numbers.proofs.route_arcs.write_arcs.Given as goal

abbrev pub invariant-loop-i : goal.invariant-loop-i
invariant-loop-i g l = Follows (g.A.PathAlgebra.meaning l.algebra) l.graph l.numbers.numbered l.fn.source l.rest l.i l.at l.value l.arcs
