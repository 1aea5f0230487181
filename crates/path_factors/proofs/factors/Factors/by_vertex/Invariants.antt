use Rattle.path_factors.proofs.Words.{◌≡◌, map, take, IsSome, CanHalt, at}
use Rattle.path_factors.proofs.factors.Factors.by_vertex.Given as goal

abbrev pub invariant-loop-place : goal.invariant-loop-place
invariant-loop-place g l = record {
  halt : CanHalt l.halt → IsSome l.stop;
  found : l.found.items ≡ map (at l.labels) (take l.place-index l.place-items);
}
