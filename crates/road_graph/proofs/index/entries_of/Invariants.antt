use Rattle.std.proofs.Common.{◌≡◌, length}
use Rattle.road_graph.proofs.Entries.{AreTold}
use Rattle.road_graph.proofs.index.entries_of.Given as goal

abbrev pub invariant-loop-place : goal.invariant-loop-place
invariant-loop-place l = record {
  count : length l.entries.items ≡ length l.tails;
  told : AreTold l.graph l.numbers l.entries.items l.place;
}
