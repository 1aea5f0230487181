use Rattle.engine_trials.proofs.Words.{[], ◌∷◌, All, BelongsTo, IsOnItsFloor}
use Rattle.std.specs.Vec.Iter.{into_iter_items}
use Rattle.engine_trials.proofs.workers.placed.Given as goal

abbrev pub invariant-loop-station : goal.invariant-loop-station
invariant-loop-station g l = record {
  next : (goal.iterator-loop-station g).can_next l.station-iterator × (goal.iterator-loop-station g).is_finite l.station-iterator;
  left : All (BelongsTo l.floor) (into_iter_items l.station-iterator);
  placed : All (IsOnItsFloor (l.floor ∷ [])) l.placed.items;
}
