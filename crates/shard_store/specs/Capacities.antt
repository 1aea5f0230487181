-- How many items a queue and an outbox may come to hold.
use Rattle.std.specs.Prelude.{ℕ, suc, ◌||◌, ◌&&◌, eqb}
use Rattle.scholten_core.specs.Network.{Network}
use Rattle.scholten_core.specs.Sums.{sum_below, one_if}

module _ (N : Network) (place : ℕ → ℕ) where
  -- 1 if the arc b has an end in the shard s
  abbrev pub touches : ℕ → ℕ → ℕ
  touches s b = one_if (eqb (place (N.head b)) s || eqb (place (N.tail b)) s)

  -- the arcs with an end in the shard; arc 0 has both at the source's
  abbrev pub queue_bound : ℕ → ℕ
  queue_bound s = sum_below (touches s) (suc N.arcs)

  -- 1 if the arc b leads from s to t or from t to s
  abbrev pub joins : ℕ → ℕ → ℕ → ℕ
  joins s t b = one_if ((eqb (place (N.head b)) t && eqb (place (N.tail b)) s) || (eqb (place (N.tail b)) t && eqb (place (N.head b)) s))

  -- the arcs between two shards
  abbrev pub outbox_bound : ℕ → ℕ → ℕ
  outbox_bound s t = sum_below (joins s t) (suc N.arcs)
