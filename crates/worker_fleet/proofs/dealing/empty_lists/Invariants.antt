use Rattle.worker_fleet.proofs.Words.{◌≡◌, vec_len, [], All}
use Rattle.worker_fleet.proofs.dealing.empty_lists.Given as goal

abbrev pub invariant-loop : goal.invariant-loop
invariant-loop g l = record { len : vec_len l.lists ≡ l.counter; empty : All (λ list. list.items ≡ []) l.lists.items }
