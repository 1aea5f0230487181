use Rattle.worker_fleet.proofs.Words.{◌≡◌, ℕ, ◌<◌, ◌++◌, get_or, vec_len, All, into_iter_items, gathered}
use Rattle.worker_fleet.proofs.group.regroup.Given as goal

abbrev pub invariant-loop-driven : goal.invariant-loop-driven
invariant-loop-driven g l = record {
  next : (goal.iterator-loop-driven g).can_next l.driven-iterator × (goal.iterator-loop-driven g).is_finite l.driven-iterator;
  len : vec_len l.lists ≡ l.width;
  within : All (λ r. All (λ p. p.0 < l.width) r.stations.items) (into_iter_items l.driven-iterator);
  put : (q : ℕ) (d : _) → q < l.width → (get_or l.lists.items q d).items ++ gathered q (into_iter_items l.driven-iterator) ≡ gathered q l.fn.answers.items;
}
