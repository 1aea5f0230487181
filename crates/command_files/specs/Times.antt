-- The line that says how long a command read, solved and wrote.
use Rattle.std.specs.Prelude.{◌≡◌, ℕ, ◌+◌, ◌/◌, ◌%◌, ◌⊎◌, List, [], ◌∷◌, ◌++◌, Bool, true, codes, decimal}
use Rattle.command_files.specs.declared.times.shown.Times.{Times}
use Rattle.command_files.specs.Moments.{Moment}
use Rattle.command_files.specs.Added.{IsAdded}

-- a number of milliseconds, in seconds
abbrev pub seconds_text : ℕ → List ℕ
seconds_text n = decimal (n / 1000) ++ 46 ∷ (48 + n / 100 % 10) ∷ (48 + n / 10 % 10) ∷ (48 + n % 10) ∷ []

-- `times: read SECONDS solve SECONDS write SECONDS`
unfoldable pub times_text : Times → List ℕ
times_text t = codes "times: read " ++ seconds_text t.read ++ codes " solve " ++ seconds_text t.solve ++ codes " write " ++ seconds_text t.write ++ 10 ∷ []

-- at the end nothing more was done; or, after a success and if that is wanted, some times were
-- shown on the error output
abbrev pub ShowsTimes : {P W E : Type 0} → Bool → ℕ → Moment P W E → Moment P W E → Type 0
ShowsTimes wanted status old new =
    (new ≡ old)
    ⊎ ((wanted ≡ true) × (status ≡ 0) × (new.files ≡ old.files) × (new.out ≡ old.out)
    × ((times : Times) × IsAdded old.errors new.errors (times_text times)))
