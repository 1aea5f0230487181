-- What a fault that stops a batch says of its workers and their gate.
use Rattle.batch_run.proofs.Words.{ℕ, Bool, Err, sym, subst, inl, inr, GraphData, Asked, Algebra, GroupFault, Says, Cause, Settings, MayStop, fault_of, IsDiffusionOf, Stops, Stopped}
use Rattle.worker_fleet.proofs.Stopped.{StopsGroup-says}
use Rattle.batch_run.proofs.CauseCases.{gated_by_number, may_stop_weaker, stalled_by_number}

pub says_of : {S V : Type 0} (meaning : S → Algebra V) (algebra : S) (g : GraphData) (how : Settings) (answers : ℕ → ℕ → Bool → Type 0) (fault : GroupFault)
    → Stops meaning algebra g how answers fault → Says answers how.workers how.turns fault
says_of meaning algebra g how answers fault (inl memory) = subst (λ (f : GroupFault). Says answers how.workers how.turns f) (sym memory) tt
says_of meaning algebra g how answers fault (inr (stop, held)) = StopsGroup-says meaning (IsDiffusionOf algebra g how) how.dealing how.workers how.width how.budget how.turns answers fault stop

module _ {S V : Type 0} (meaning : S → Algebra V) (algebra : S) (g : GraphData) (how : Settings) (answers : ℕ → ℕ → Bool → Type 0) (undiffused : Bool) (cause : Cause)
    (may : MayStop undiffused (Stops meaning algebra g how answers) cause) where
  pub says_of_cause : MayStop undiffused (Says answers how.workers how.turns) cause
  says_of_cause = may_stop_weaker undiffused (Stops meaning algebra g how answers) (Says answers how.workers how.turns) (says_of meaning algebra g how answers) cause may

  -- a run over what was read stopped for this cause
  pub stopped_for : (IsRead : GraphData → Asked → Type 0) (asked : Asked) → IsRead g asked → Stopped meaning algebra how answers IsRead (Err (fault_of cause))
  stopped_for IsRead asked read = record {
    stalled = λ e. record { graph = g; asked = asked; read = read; stops = (stalled_by_number undiffused (Stops meaning algebra g how answers) cause may e).1 };
    gated = λ e. record { graph = g; asked = asked; read = read; stops = (gated_by_number undiffused (Stops meaning algebra g how answers) cause may e).1 };
  }
