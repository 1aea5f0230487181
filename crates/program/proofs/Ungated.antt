-- A gate that is always open stops nothing.
use Rattle.std.proofs.Common.{◌≡◌, ◌≢◌, ℕ, Result, Ok, Err, true, false}
use Rattle.program.proofs.Words.{IfErr, GraphData, Asked, AlgebraChoice, Under, under_any, File, RunFault, Settings, gate_is_open}
use Rattle.batch_run.specs.Runs.{Output, Ran}
use Rattle.batch_run.specs.Stopping.{Closes}

-- 41 is reported only of a gate that answered false, so never of this one
never_gated : (P : Type 0) (workers turns : ℕ) (r : Result (Unit {0}) RunFault) → IfErr r (λ f. f.number ≡ 41 → P × Closes gate_is_open workers turns) → IfErr r (λ f. f.number ≢ 41)
never_gated P workers turns (Ok u) h = tt
never_gated P workers turns (Err f) h = λ is. let e : false ≡ true = (h is).1.closed in cc

-- nor of a batch under the algebra that was chosen
pub never_gated_under : {W : Type 0} (c : AlgebraChoice) (how : Settings) (IsRead : GraphData → Asked → Type 0) (inputs : File → Type 0) (out out_after : Output W) (r : Result (Unit {0}) RunFault) →
    Under c (λ V A. Ran A how gate_is_open IsRead inputs out out_after r) → IfErr r (λ f. f.number ≢ 41)
never_gated_under c how IsRead inputs out out_after r ran =
    under_any c (λ V A. Ran A how gate_is_open IsRead inputs out out_after r) (IfErr r (λ f. f.number ≢ 41)) (λ V A it. never_gated _ _ _ r it.gated) ran
