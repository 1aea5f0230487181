-- What the answers of all workers are, from what each was started with.
use Rattle.worker_fleet.proofs.Words.{ℕ, IsAssigned}
use Rattle.std.specs.Prelude.{Result, Ok, Err, IfOk}
use Rattle.worker_fleet.specs.declared.fleet.Assigned.{Assigned}

pub answers_assigned : {J K T : Type 0} (answers : K → ℕ → J → T → Type 0) (assignment : K) (worker : ℕ) (job : J) (p : Assigned J K) (r : T)
    → IsAssigned assignment worker job p → answers p.assignment.now p.worker p.job.value r → answers assignment worker job r
answers_assigned answers assignment worker job p r h d = rw (← h.assignment_is, ← h.worker_is, ← h.job_is) d

pub IfOk_from : {T E : Type 0} (r : Result T E) {P Q R S : T → Type 0} → IfOk r P → IfOk r Q → IfOk r R → ((v : T) → P v → Q v → R v → S v) → IfOk r S
IfOk_from (Ok v) p q s f = f v p q s
IfOk_from (Err e) p q s f = tt
