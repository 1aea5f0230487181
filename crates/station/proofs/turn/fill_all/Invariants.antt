use Rattle.station.proofs.Words.{◌≡◌, ◌≤◌, AreBehind, AllTriedTo}
use Rattle.station.proofs.turn.fill_all.Given as goal

abbrev pub invariant-loop-to : goal.invariant-loop-to
invariant-loop-to g l = record {
  behind : AreBehind g.A.PathAlgebra.meaning l.floor l.seat l.part;
  tried : AllTriedTo l.floor l.to l.published l.initial.part l.part l.initial.seat l.seat;
  setup : l.part.setup ≡ l.initial.part.setup;
  shard : l.part.shard ≡ l.initial.part.shard;
  count : l.published ≤ l.to;
}
