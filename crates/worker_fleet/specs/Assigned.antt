-- What a worker was started with.
use Rattle.std.specs.Prelude.{◌≡◌, ℕ}
use Rattle.worker_fleet.specs.declared.fleet.Assigned.{Assigned}

-- the worker of this number does this job of the assignment
pub record IsAssigned {J K : Type 0} (assignment : K) (worker : ℕ) (job : J) (assigned : Assigned J K) : Type 0 where
  pub assignment_is : assigned.assignment.now ≡ assignment
  pub worker_is : assigned.worker ≡ worker
  pub job_is : assigned.job.value ≡ job
