-- Inputs and outputs at a moment, as their readers and writers show them.
use Rattle.std.specs.Prelude.{ℕ, List, Option}

-- an input at a moment: its state, the bytes that it has left, if it shows them, how many reads
-- failed, and how many were asked for
pub record Input (X : Type 0) : Type 0 where
  pub state : X
  pub left : Option (List ℕ)
  pub failures : ℕ
  pub asked : ℕ

-- an output at a moment: its state, the bytes that it took, if it shows them, the last of them that
-- it still holds, and how many writes and flushes failed
pub record Output (X : Type 0) : Type 0 where
  pub state : X
  pub written : Option (List ℕ)
  pub held : List ℕ
  pub failures : ℕ
