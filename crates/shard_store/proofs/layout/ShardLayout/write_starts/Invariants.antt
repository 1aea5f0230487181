use Rattle.shard_store.proofs.Words.{◌≡◌, ◌<◌, ℕ, length, get_or, take, network_of, arcs_out}
use Rattle.shard_store.proofs.layout.ShardLayout.write_starts.Given as goal

abbrev pub invariant-loop-j : goal.invariant-loop-j
invariant-loop-j g l = record {
  rest : l.vertices ≡ record l.initial.vertices { offsets = l.vertices.offsets };
  long : length l.vertices.offsets ≡ length l.own;
  count : l.count ≡ length (arcs_out (network_of l.self.setup) (take l.j l.own));
  starts : (j : ℕ) → j < l.j → get_or l.vertices.offsets j 0 ≡ length (arcs_out (network_of l.self.setup) (take j l.own));
}
