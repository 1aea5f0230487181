use Rattle.station.proofs.Words.{◌≡◌, ◌≤◌, AreReady, AllCameIn, AllTriedFrom}
use Rattle.station.proofs.turn.read_all.Given as goal

abbrev pub invariant-loop-from : goal.invariant-loop-from
invariant-loop-from g l = record {
  ready : AreReady l.floor l.seat l.part;
  part : AllCameIn g.A.PathAlgebra.meaning l.taken l.initial.part l.part;
  tried : AllTriedFrom l.floor l.from l.taken l.initial.seat l.seat;
  setup : l.part.setup ≡ l.initial.part.setup;
  shard : l.part.shard ≡ l.initial.part.shard;
  count : l.taken ≤ l.from;
}
