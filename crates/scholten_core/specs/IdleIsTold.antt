-- What an idle arc was last offered.
use Rattle.std.specs.Prelude.{◌≡◌, ◌≢◌, ℕ}
use Rattle.scholten_core.specs.declared.token.Token.TheVariants.{Idle}
use Rattle.scholten_core.specs.Network.{Network}
use Rattle.scholten_core.specs.Diffusion.{CoreState}

-- an idle arc out of a vertex was last offered the vertex's label
abbrev pub IdleIsTold : {V : Type 0} → Network → CoreState V → Type 0
IdleIsTold N c = (b : ℕ) → N.tail b ≢ 0 → c.token b ≡ Idle → c.told b ≡ c.label (N.tail b)
