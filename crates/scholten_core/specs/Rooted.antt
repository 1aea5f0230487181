-- The engaged vertices as a tree whose root is the environment.
use Rattle.std.specs.Prelude.{◌≡◌, ◌↔◌, ℕ, Option, Some, None, List, [], ◌∷◌, ◌⊎◌, Contains}
use Rattle.scholten_core.specs.declared.token.Token.TheVariants.{Idle, Held}
use Rattle.path_algebra.specs.Algebra.{Algebra}
use Rattle.scholten_core.specs.Network.{Network}
use Rattle.scholten_core.specs.Diffusion.{CoreState}

module _ {V : Type 0} (A : Algebra V) (N : Network) where
  -- the listed vertices, the newest first, each once: the tail of each one's engager is the
  -- environment or is among the older
  abbrev pub IsEngagementOrder : (ℕ → Option ℕ) → List ℕ → Type 0
  IsEngagementOrder engager [] = Unit {0}
  IsEngagementOrder engager (v ∷ older) =
      ((a : ℕ) × (engager v ≡ Some a) × ((N.tail a ≡ 0) ⊎ Contains older (N.tail a))) × (Contains older v → ⊥) × IsEngagementOrder engager older

  -- all engaged vertices are in such a list, and the arc of each one's engager is held
  abbrev pub IsRooted : CoreState V → Type 0
  IsRooted c = (order : List ℕ) × IsEngagementOrder c.engager order × ((v a : ℕ) → c.engager v ≡ Some a → Contains order v × (c.token a ≡ Held))

  -- a neutral vertex has no busy arc out
  abbrev pub NeutralIsIdle : CoreState V → Type 0
  NeutralIsIdle c = (b : ℕ) → (b ≡ 0 → ⊥) → c.engager (N.tail b) ≡ None → c.token b ≡ Idle

  -- an arc engages a vertex exactly if it is held and leads there
  abbrev pub HeldIsEngager : CoreState V → Type 0
  HeldIsEngager c = (v a : ℕ) → (c.engager v ≡ Some a) ↔ ((c.token a ≡ Held) × (N.head a ≡ v))
