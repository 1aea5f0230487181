-- Which part of a state belongs to a shard.
use Rattle.std.specs.Prelude.{◌≡◌, ℕ, Bool, true}
use Rattle.path_algebra.specs.Algebra.{Algebra}
use Rattle.scholten_core.specs.Network.{Network}
use Rattle.scholten_core.specs.Diffusion.{CoreState, is_idle}

module _ {V : Type 0} (A : Algebra V) (N : Network) where
  -- two states agree on a shard: its vertices, and the arcs out of them
  pub record Agree (mine : ℕ → Bool) (c d : CoreState V) : Type 0 where
    pub label : (v : ℕ) → mine v ≡ true → d.label v ≡ c.label v
    pub engager : (v : ℕ) → mine v ≡ true → d.engager v ≡ c.engager v
    pub told : (b : ℕ) → mine (N.tail b) ≡ true → d.told b ≡ c.told b
    pub idle : (b : ℕ) → mine (N.tail b) ≡ true → is_idle (d.token b) ≡ is_idle (c.token b)
