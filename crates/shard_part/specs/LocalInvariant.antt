-- The local invariant of a part: what it can know by itself.
use Rattle.std.specs.Prelude.{◌≡◌, ℕ, ◌+◌, ◌<◌, ◌≤◌, Bool, true, false, ◌&&◌, eqb, Option, Some, None, [], length, get_or}
use Rattle.scholten_core.specs.Network.{Network}
use Rattle.scholten_core.specs.Sums.{one_if}
use Rattle.scholten_core.specs.Diffusion.{CoreState, is_idle}
use Rattle.scholten_core.specs.Items.{item_arc}
use Rattle.shard_store.specs.Setup.{network_of, place_in}
use Rattle.shard_part.specs.PartState.{PartData, state_in, vertex_of, maker_of, IsArc}
use Rattle.shard_store.specs.Totals.{is}
use Rattle.shard_part.specs.Weights.{All, part_weight}

-- whether the engager, if there is one, is the arc b
abbrev pub names : Option ℕ → ℕ → Bool
names None b = false
names (Some e) b = eqb b e

module _ {V : Type 0} (N : Network) (place : ℕ → ℕ) where
  -- 1 if the arc b engages a vertex of the shard s
  abbrev pub engages : ℕ → CoreState V → ℕ → ℕ
  engages s d b = one_if (eqb (place (N.head b)) s && names (d.engager (N.head b)) b)

  -- 1 if it leaves a vertex of s and is idle
  abbrev pub idles : ℕ → CoreState V → ℕ → ℕ
  idles s d b = one_if (eqb (place (N.tail b)) s && is_idle (d.token b))

module _ {S V : Type 0} (N : Network) (place : ℕ → ℕ) where
  -- What a part can know by itself. At most one of these holds of each arc: it has an item on it,
  -- it engages here, or it is idle here.
  pub record LocalInvariant (p : PartData S V) : Type 0 where
    pub once : (b : ℕ) → part_weight (λ _ j. is b (item_arc j)) p + engages N place p.shard (state_in p) b + idles N place p.shard (state_in p) b ≤ 1
    pub leads : (v e : ℕ) → eqb (place v) p.shard ≡ true → (state_in p).engager v ≡ Some e → (N.head e ≡ v) × IsArc N e
    pub here : All (λ i. (place (vertex_of N i) ≡ p.shard) × IsArc N (item_arc i)) p.queue
    pub gone : (t : ℕ) → All (λ i. (place (vertex_of N i) ≡ t) × (place (maker_of N i) ≡ p.shard) × IsArc N (item_arc i)) (get_or p.outs t [])
    pub wide : (v : ℕ) → place v < length p.outs

-- nothing is known of the arc: no item on it, not engaging, not idle
abbrev pub IsClear : {S V : Type 0} → PartData S V → ℕ → Type 0
IsClear p a = part_weight (λ _ j. is a (item_arc j)) p + engages (network_of p.setup) (place_in p.setup) p.shard (state_in p) a + idles (network_of p.setup) (place_in p.setup) p.shard (state_in p) a ≡ 0
