use Rattle.std.proofs.Common.{rules}
use Rattle.post_floor.proofs.Opened.{sits}
use Rattle.post_floor.proofs.open.seat_one.Goals as goal

pub invariant_of-result : goal.invariant_of-result
invariant_of-result g c = let p = c.requires.part in
    sits c.args.pass.table_id c.args.shard c.args.shards p.0 c.args.pass.me _ _ _ _ p.1 p.2 p.3 c.requires.shards.1 (search rules) (search rules)
    (c.in_ok-next_fill.ensures.items_if_clones_equal (λ y e. search rules)) (c.in_ok-next_read.ensures.items_if_clones_equal (λ y e. search rules))
