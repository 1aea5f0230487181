use Rattle.worker_fleet.proofs.Words.{◌≡◌, ℕ, ◌<◌, ◌++◌, get_or, vec_len, All, into_iter_items, of_group}
use Rattle.worker_fleet.proofs.dealing.put_all.Given as goal

abbrev pub invariant-loop-group : goal.invariant-loop-group
invariant-loop-group g l =
    let n = vec_len l.initial.lists in
    record {
      next : (goal.iterator-loop-group g).can_next l.group-iterator × (goal.iterator-loop-group g).is_finite l.group-iterator;
      len : vec_len l.lists ≡ n;
      within : All (λ p. p.0 < n) (into_iter_items l.group-iterator);
      put : (q : ℕ) (d : _) → q < n → (get_or l.lists.items q d).items ++ of_group q (into_iter_items l.group-iterator) ≡ (get_or l.initial.lists.items q d).items ++ of_group q l.fn.things.items;
    }
