use Rattle.post_floor.proofs.Words.{◌≡◌, ◌++◌, map, length, List, [], PartData, knows, seat_of}
use Rattle.post_floor.proofs.open.seat_all.Given as goal

abbrev pub invariant-loop-shard : goal.invariant-loop-shard
invariant-loop-shard g l =
    (qs : List (PartData g.row.A.Denot g.row.A-Value.Denot)) × (l.seats.items ≡ map (seat_of l.table.table_id l.shards) qs)
    × (qs ++ l.pass.me.0.parts ≡ l.fn.pass.me.0.parts) × (length qs ≡ l.shard)
    × (l.pass.me.1 ≡ []) × (l.pass.me.0 ≡ knows l.shards l.pass.me.0.parts) × (l.pass.table_id ≡ l.table.table_id)
