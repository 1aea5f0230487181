use Rattle.worker_fleet.proofs.Words.{◌≡◌, ℕ, ◌<◌, ◌+◌, ◌++◌, get_or, vec_len, into_iter_items, into_iter_len, share_of}
use Rattle.worker_fleet.proofs.dealing.deal_all.Given as goal

abbrev pub invariant-loop-things : goal.invariant-loop-things
invariant-loop-things g l = record {
  next : (goal.iterator-loop-things g).can_next l.things-iterator × (goal.iterator-loop-things g).is_finite l.things-iterator;
  counted : l.group + into_iter_len l.things-iterator ≡ vec_len l.fn.groups;
  len : vec_len l.shares ≡ l.workers;
  dealt : (w : ℕ) (d : _) → w < l.workers → (get_or l.shares.items w d).items ++ share_of l.rule l.workers w l.group (into_iter_items l.things-iterator) ≡ share_of l.rule l.workers w 0 l.fn.groups.items;
}
