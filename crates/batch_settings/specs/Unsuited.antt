-- Which settings are refused.
use Rattle.std.specs.Prelude.{◌≡◌, ◌⊎◌, true, Option, None}
use Rattle.path_algebra.specs.declared.counted_sums.Cost.{Cost}
use Rattle.batch_settings.specs.declared.settings.Settings.{Settings}
use Rattle.batch_settings.specs.InRange.{AreInRange}

-- a setting is out of its range, or factors are chosen and the algebra does not say what an arc
-- costs
abbrev pub IsUnsuited : Option Cost → Settings → Type 0
IsUnsuited cost how = (AreInRange how → ⊥) ⊎ ((how.factors ≡ true) × (cost ≡ None))
