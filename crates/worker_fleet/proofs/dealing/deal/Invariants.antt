use Rattle.worker_fleet.proofs.Words.{◌≡◌, ℕ, ◌<◌, ◌++◌, get_or, vec_len, into_iter_items, dealt}
use Rattle.worker_fleet.proofs.dealing.deal.Given as goal

abbrev pub invariant-loop-thing : goal.invariant-loop-thing
invariant-loop-thing g l =
    let n = vec_len l.initial.shares in
    record {
      next : (goal.iterator-loop-thing g).can_next l.thing-iterator × (goal.iterator-loop-thing g).is_finite l.thing-iterator;
      worker : l.worker < n;
      len : vec_len l.shares ≡ n;
      dealt : (w : ℕ) (d : _) → w < n → (get_or l.shares.items w d).items ++ dealt n w l.worker l.group (into_iter_items l.thing-iterator)
          ≡ (get_or l.initial.shares.items w d).items ++ dealt n w l.first l.group l.fn.things.items;
    }
