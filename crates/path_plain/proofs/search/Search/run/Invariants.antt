use Rattle.path_plain.proofs.Words.{◌+◌, ◌*◌, length, IsOfSame, StaysBetween}
use Rattle.path_plain.proofs.Rounds.{unsettled}
use Rattle.path_plain.proofs.search.Search.run.Given as goal

abbrev pub invariant-loop : goal.invariant-loop
invariant-loop g l = record {
  of_same : IsOfSame l.fn.self l.self;
  between : StaysBetween (g.A.PathAlgebra.meaning l.fn.self.algebra) l.fn.self l.self;
}

abbrev pub decreases-loop : goal.decreases-loop
decreases-loop g l = unsettled l.self.settled * (length l.fn.self.roads.arcs + 1) + l.self.waiting
