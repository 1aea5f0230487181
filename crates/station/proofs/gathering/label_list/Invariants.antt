use Rattle.station.proofs.Words.{◌≡◌, ◌<◌, ◌+◌, ℕ, [], ◌∷◌, length, None, get_or, IsBestLabel}
use Rattle.station.proofs.gathering.label_list.Given as goal

abbrev pub invariant-loop-v : goal.invariant-loop-v
invariant-loop-v g l = record {
  long : length l.list.items ≡ l.v;
  best : (i : ℕ) → i < l.v
      → IsBestLabel (g.A.PathAlgebra.meaning l.floor.setup.diffusion.algebra) l.floor.setup.diffusion.roads (l.floor.setup.diffusion.source ∷ []) (i + 1)
      (get_or l.list.items i None);
}
