use Rattle.std.proofs.Common.{◌≡◌, ℕ, ◌<◌, ◌≤◌, ◌+◌, get_or, vec_len, vec_capacity}
use Rattle.worker_fleet.proofs.Words.{into_iter_items, into_iter_len, IsAssigned}
use Rattle.worker_fleet.proofs.fleet.start_all.Given as goal

abbrev pub invariant-loop-job : goal.invariant-loop-job
invariant-loop-job g l =
    let done = vec_len l.handles in let rest = l.job-iterator in
    record {
      room : vec_len l.fn.jobs ≤ vec_capacity l.handles;
      number : l.worker ≡ done;
      counted : done + into_iter_len rest ≡ vec_len l.fn.jobs;
      left : (k : ℕ) (d : _) → k < into_iter_len rest → get_or (into_iter_items rest) k d ≡ get_or l.fn.jobs.items (done + k) d;
      assigned : (k : ℕ) (h job : _) → k < done → IsAssigned l.assignment k (get_or l.fn.jobs.items k job) (get_or l.handles.items k h).promise;
    }
