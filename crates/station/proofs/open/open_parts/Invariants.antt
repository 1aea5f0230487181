use Rattle.station.proofs.Words.{◌≡◌, All, opened_parts, HoldsReachedShare, setup_of}
use Rattle.station.proofs.open.open_parts.Given as goal

abbrev pub invariant-loop-shard : goal.invariant-loop-shard
invariant-loop-shard g l = record {
  parts : l.parts.items ≡ opened_parts (g.A.PathAlgebra.meaning l.algebra) (setup_of l.algebra l.graph l.source l.counted.plan l.order) 0 l.shard;
  known : All (HoldsReachedShare g.A.PathAlgebra.meaning) l.parts.items;
}
