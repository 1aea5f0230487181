-- Text that is added to an output.
use Rattle.std.specs.Prelude.{◌≡◌, ◌<◌, ◌⊎◌, ℕ, List}
use Rattle.std.specs.Io.KnownBytes.{Appends}
use Rattle.text_lines.specs.Streams.{Output}

-- the text was added, and no write failed; or a write failed
abbrev pub IsAdded : {X : Type 0} → Output X → Output X → List ℕ → Type 0
IsAdded old new text = (Appends old.written new.written text × (new.failures ≡ old.failures)) ⊎ (old.failures < new.failures)
