-- Why a batch stops after its input was read, and how that is reported.
use Rattle.std.specs.Prelude.{◌≡◌, ◌≢◌, ℕ, Bool, false}
use Rattle.worker_fleet.specs.declared.group.GroupFault.{GroupFault}
use Rattle.worker_fleet.specs.declared.group.GroupFault.TheVariants.{Memory, Stalled, Gated}
use Rattle.batch_run.specs.declared.cause.Cause.{Cause}
use Rattle.batch_run.specs.declared.cause.Cause.TheVariants.{Unsolved, Write}
use Rattle.batch_inputs.specs.declared.faults.File.TheVariants.{NoFile}
use Rattle.batch_inputs.specs.declared.faults.RunFault.{RunFault}

-- the number that reports it
abbrev pub number_of : Cause → ℕ
number_of (Unsolved Memory) = 3
number_of (Unsolved Stalled) = 40
number_of (Unsolved Gated) = 41
number_of Write = 42

-- the fault that reports it, in no input and no line
abbrev pub fault_of : Cause → RunFault
fault_of cause = record { number = number_of cause; file = NoFile; line = 0 }

-- a batch may stop for this: memory or a thread, or a write; and if workers answer, a limit of
-- turns or a gate that stopped a group of diffusions, of which `stops` says what holds
abbrev pub MayStop : (undiffused : Bool) → (stops : GroupFault → Type 0) → Cause → Type 0
MayStop undiffused stops (Unsolved fault) = fault ≢ Memory → (undiffused ≡ false) × stops fault
MayStop undiffused stops Write = Unit {0}
