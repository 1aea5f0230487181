-- What a call leaves of a handle.
use Rattle.std.specs.Prelude.{◌≡◌, ◌≢◌, ℤ, pos, Option, None}
use Rattle.arc_numbers.specs.Numbering.{Numbering}
use Rattle.diffuse_c.specs.declared.held.Held.{Held}
use Rattle.diffuse_c.specs.Holding.{graph_in}

-- it keeps its graph and the factors of that, its stop and its numbers
pub record KeepsHeld (old new : Held) : Type 0 where
  pub shared : new.shared ≡ old.shared
  pub stop : new.stop ≡ old.stop
  pub numbers : new.numbers ≡ old.numbers

-- the same, but its graph may be factored once more if the status is 0
pub record KeepsUnlessFactored (old new : Held) (status : ℤ) : Type 0 where
  pub roads : graph_in new.shared ≡ graph_in old.shared
  pub shared : status ≢ pos 0 → new.shared ≡ old.shared
  pub stop : new.stop ≡ old.stop
  pub numbers : new.numbers ≡ old.numbers

-- it keeps its stop and its numbers, and its graph or none if the status is not 0
pub record KeepsUnlessOpened (old new : Held) (status : ℤ) : Type 0 where
  pub shared : status ≢ pos 0 → new.shared ≡ old.shared
  pub stop : new.stop ≡ old.stop
  pub numbers : new.numbers ≡ old.numbers

-- a second handle has no stop and these numbers if the status is 0, and else keeps what it has
pub record OpensSecond (old new : Held) (numbers : Option Numbering) (status : ℤ) : Type 0 where
  pub unstopped : status ≡ pos 0 → new.stop ≡ None
  pub numbered : status ≡ pos 0 → new.numbers ≡ numbers
  pub kept : status ≢ pos 0 → KeepsHeld old new
