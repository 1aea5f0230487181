-- What may be read of a part.
use Rattle.std.specs.Prelude.{◌≡◌, ℕ, false, not, ◌&&◌, ◌||◌, Bool, eqb, leb, get_or}
use Rattle.road_graph.specs.GraphData.{HasVertex}
use Rattle.shard_store.specs.declared.tally.Tally.{Tally}
use Rattle.shard_store.specs.Tallies.{top}
use Rattle.shard_part.specs.PartState.{PartData}
use Rattle.shard_store.specs.Setup.{place_in}

module _ {S V : Type 0} where
  -- v is a vertex of the part's shard
  abbrev pub IsOwn : PartData S V → ℕ → Type 0
  IsOwn p v = HasVertex p.setup.diffusion.roads v × (place_in p.setup v ≡ p.shard)

  -- arc 0 is idle, as the source's part alone can know
  abbrev pub has_ended : PartData S V → Bool
  has_ended p = eqb (place_in p.setup 0) p.shard && not (get_or p.busy 0 false)

  -- the counts of the part's events, full if one of them is at its top
  abbrev pub tally_in : PartData S V → Tally
  tally_in p = record {
    sent = p.sent;
    delivered = p.delivered;
    signalled = p.signalled;
    accepted = p.accepted;
    full = leb top p.sent || leb top p.delivered || leb top p.signalled || leb top p.accepted;
  }
