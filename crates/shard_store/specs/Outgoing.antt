-- The vertices of a shard, and the arcs out of them.
use Rattle.std.specs.Prelude.{ℕ, zero, suc, cond, eqb, List, [], ◌∷◌, ◌++◌}
use Rattle.scholten_core.specs.Network.{Network}
use Rattle.shard_store.specs.Tables.{placed}
use Rattle.shard_store.specs.Setup.{SetupData, place_in}

module _ (N : Network) where
  -- of the numbers k, k + 1, .., k + n - 1, the arcs out of v
  abbrev pub arcs_from : ℕ → ℕ → ℕ → List ℕ
  arcs_from v k zero = []
  arcs_from v k (suc n) = cond (eqb (N.tail k) v) (k ∷ arcs_from v (suc k) n) (arcs_from v (suc k) n)

  -- the arcs out of v, ascending
  abbrev pub outgoing : ℕ → List ℕ
  outgoing v = arcs_from v 0 (suc N.arcs)

-- the vertices of a shard, ascending; the environment comes first in each
abbrev pub local_vertices : {S : Type 0} → SetupData S → ℕ → List ℕ
local_vertices t s = 0 ∷ placed (place_in t) s 1 t.diffusion.roads.vertices

-- the arcs out of the vertices of a list, one vertex after the other
unfoldable pub arcs_out : Network → List ℕ → List ℕ
arcs_out N [] = []
arcs_out N (v ∷ vs) = outgoing N v ++ arcs_out N vs
