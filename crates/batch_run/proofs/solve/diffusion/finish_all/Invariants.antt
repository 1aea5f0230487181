use Rattle.batch_run.proofs.Words.{◌≡◌, ◌++◌, true, All, into_iter_items}
use Rattle.batch_run.proofs.solve.diffusion.finish_all.Given as goal

abbrev pub invariant-loop-station : goal.invariant-loop-station
invariant-loop-station g l = record {
  next : (goal.iterator-loop-station g).can_next l.station-iterator × (goal.iterator-loop-station g).is_finite l.station-iterator;
  all : l.finished.items ++ into_iter_items l.station-iterator ≡ l.fn.stations.items;
  ended : All (λ s. s.ended ≡ true) (into_iter_items l.station-iterator);
}
