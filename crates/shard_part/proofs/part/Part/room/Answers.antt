use Rattle.std.proofs.Common.{arith, ap, ◌∙◌}
use Rattle.shard_part.proofs.Receiving.{queue_within, room_is}
use Rattle.shard_part.proofs.part.Part.room.Goals as goal

pub overflow_sub-result : goal.overflow_sub-result
overflow_sub-result g c = let w = queue_within (g.A.PathAlgebra.meaning c.self-inside.inside.0.0.algebra) _ _ _ _ c.self-inside.invariant in let l = c.len.ensures in let k =
    c.capacity.ensures in omega (arith, w, l, k)

pub returns : goal.returns
returns g c = room_is (g.A.PathAlgebra.meaning c.self-inside.inside.0.0.algebra) _ c.args.self.now _ _ _ c.capacity.result c.len.result
    (ap (λ i. i.state) c.self-inside.view_is ∙ c.self.view_is) c.self-inside.invariant c.capacity.ensures c.len.ensures
