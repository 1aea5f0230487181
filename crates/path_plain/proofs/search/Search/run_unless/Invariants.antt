use Rattle.path_plain.proofs.Words.{◌≡◌, ◌+◌, ◌*◌, length, Some, IsOfSame, StaysBetween}
use Rattle.halting.specs.Halting.{CanHalt}
use Rattle.path_plain.proofs.Rounds.{unsettled}
use Rattle.path_plain.proofs.search.Search.run_unless.Given as goal

abbrev pub invariant-loop-halt : goal.invariant-loop-halt
invariant-loop-halt g l = record {
  of_same : IsOfSame l.fn.self l.self;
  between : StaysBetween (g.A.PathAlgebra.meaning l.fn.self.algebra) l.fn.self l.self;
  target : l.target ≡ Some l.fn.target;
  halt : CanHalt l.halt → CanHalt l.fn.halt;
}

abbrev pub decreases-loop-halt : goal.decreases-loop-halt
decreases-loop-halt g l = unsettled l.self.settled * (length l.fn.self.roads.arcs + 1) + l.self.waiting
