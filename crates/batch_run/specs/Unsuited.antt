-- How settings are refused.
use Rattle.std.specs.Prelude.{◌≡◌, ◌↔◌, Option, Result, Err}
use Rattle.path_algebra.specs.declared.counted_sums.Cost.{Cost}
use Rattle.batch_inputs.specs.declared.faults.File.TheVariants.{NoFile}
use Rattle.batch_inputs.specs.declared.faults.RunFault.{RunFault}
use Rattle.batch_settings.specs.declared.settings.Settings.{Settings}
use Rattle.batch_settings.specs.Unsuited.{IsUnsuited}

-- fault 43, of no input and in no line, is reported exactly of such settings
abbrev pub IsRefusedUnsuited : Option Cost → Settings → Result (Unit {0}) RunFault → Type 0
IsRefusedUnsuited cost how outcome = (outcome ≡ Err (record { number = 43; file = NoFile; line = 0 })) ↔ IsUnsuited cost how
