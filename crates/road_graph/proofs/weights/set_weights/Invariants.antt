use Rattle.road_graph.proofs.Words.{◌≡◌, ℕ, ◌<◌, ◌≤◌, ◌⊎◌, length}
use Rattle.std.specs.Prelude.{IsTrue, false}
use Rattle.road_graph.specs.Changing.{road_after, road_at}
use Rattle.road_graph.proofs.weights.set_weights.Given as goal

abbrev pub invariant-loop-k : goal.invariant-loop-k
invariant-loop-k l = record {
  count : length l.roads ≡ length l.fn.roads;
  there : (j : ℕ) → l.start ≤ j → j < l.k → road_at l.roads j ≡ road_after l.change (road_at l.fn.roads j);
  elsewhere : (j : ℕ) → (j < l.start) ⊎ (l.k ≤ j) → road_at l.roads j ≡ road_at l.fn.roads j;
  found : IsTrue l.found → (j : ℕ) × (l.start ≤ j) × (j < l.end) × ((road_at l.fn.roads j).head ≡ l.change.head);
  missed : l.found ≡ false → (j : ℕ) → l.start ≤ j → j < l.k → (road_at l.fn.roads j).head ≡ l.change.head → ⊥;
}
