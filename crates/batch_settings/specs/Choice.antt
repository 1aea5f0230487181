-- Which kind of solver the settings choose.
use Rattle.std.specs.Prelude.{Bool, ◌||◌}
use Rattle.batch_settings.specs.declared.settings.Settings.{Settings}

-- one without diffusions: factors, or the plain one
abbrev pub without_diffusions : Settings → Bool
without_diffusions s = s.factors || s.plain
