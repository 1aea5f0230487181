-- How many arcs out of a vertex are busy.
use Rattle.std.specs.Prelude.{ℕ, suc, eqb, not, ◌&&◌}
use Rattle.scholten_core.specs.Network.{Network}
use Rattle.scholten_core.specs.Diffusion.{CoreState, is_idle}
use Rattle.scholten_core.specs.Sums.{sum_below, one_if}

module _ {V : Type 0} (N : Network) where
  -- of the arcs below n, those that leave v and are not idle
  abbrev pub busy_out : ℕ → CoreState V → ℕ → ℕ
  busy_out v c n = sum_below (λ b. one_if (eqb (N.tail b) v && not (is_idle (c.token b)))) n

  -- of all arcs
  abbrev pub deficit : ℕ → CoreState V → ℕ
  deficit v c = busy_out v c (suc N.arcs)
