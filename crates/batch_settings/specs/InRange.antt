-- The ranges of the settings.
use Rattle.std.specs.Prelude.{◌≤◌}
use Rattle.batch_settings.specs.declared.settings.Settings.{Settings}

-- each setting is in its range
pub record AreInRange (s : Settings) : Type 0 where
  pub workers : (1 ≤ s.workers) × (s.workers ≤ 64)
  pub shards : (1 ≤ s.shards) × (s.shards ≤ 64)
  pub width : (1 ≤ s.width) × (s.width ≤ 64)
  pub budget : (1 ≤ s.budget) × (s.budget ≤ 65536)
  pub turns : s.turns ≤ 1000000000000
