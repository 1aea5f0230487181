-- What writing a text leaves, between two moments of the output.
use Rattle.std.specs.Prelude.{◌≡◌, ◌+◌, ℕ, List, [], ◌++◌, Result, Ok, Err}
use Rattle.std.specs.Io.KnownBytes.{Appends}
use Rattle.text_lines.specs.Streams.{Output}

-- a prefix of the text was written, the rest is left, and no write failed
pub record WrotePrefix {X : Type 0} (old new : Output X) (text rest : List ℕ) : Type 0 where
  pub prefix : List ℕ
  pub text_is : text ≡ prefix ++ rest
  pub bytes : Appends old.written new.written prefix
  pub sound : new.failures ≡ old.failures

-- a prefix of the text was written, and then a write failed
pub record FailedAfterPrefix {X : Type 0} (old new : Output X) (text : List ℕ) : Type 0 where
  pub prefix : List ℕ
  pub rest : List ℕ
  pub text_is : text ≡ prefix ++ rest
  pub bytes : Appends old.written new.written prefix
  pub failed : new.failures ≡ old.failures + 1

-- the whole text was written and no write failed, or a prefix of it and then one failed
abbrev pub WritesText : {A E X : Type 0} → Output X → Output X → List ℕ → Result A E → Type 0
WritesText old new text (Ok _) = WrotePrefix old new text []
WritesText old new text (Err _) = FailedAfterPrefix old new text
