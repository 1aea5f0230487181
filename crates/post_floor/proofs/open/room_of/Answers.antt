use Rattle.post_floor.proofs.Words.{arith, ◌<◌, ◌/◌, ◌%◌, length, ap, sym, subst, ◌∙◌, network_of, place_in, outbox_bound}
use Rattle.post_floor.proofs.Opened.{opened_long, pair_below, part_at, cap_own, cap_other}
use Rattle.post_floor.proofs.open.room_of.Goals as goal

pub offset_bounds-parts-from : goal.offset_bounds-parts-from
offset_bounds-parts-from g c = let l =
    ap length c.requires.parts
    ∙ opened_long (g.A.PathAlgebra.meaning c.args.first.now.setup.diffusion.algebra) c.args.first.now.setup 0 c.args.shards in
    omega (arith, l, (pair_below c.args.shards c.args.k c.requires.word).0)

pub bounds-parts-from : goal.bounds-parts-from
bounds-parts-from g c = let l =
    ap length c.requires.parts
    ∙ opened_long (g.A.PathAlgebra.meaning c.args.first.now.setup.diffusion.algebra) c.args.first.now.setup 0 c.args.shards in
    omega (arith, l, (pair_below c.args.shards c.args.k c.requires.word).0)

pub capacity-requires-clause-other : goal.capacity-requires-clause-other
capacity-requires-clause-other g c κs within = let q =
    part_at g.A.PathAlgebra.meaning c.args.first.now c.index-parts-from.result c.args.parts.now c.args.shards (c.args.k / 4 / c.args.shards)
    c.requires.parts (pair_below c.args.shards c.args.k c.requires.word).0 c.index-parts-from.is in
    λ e. c.if-from-to.false (sym (e ∙ q.1))

pub capacity-requires-clause-shard : goal.capacity-requires-clause-shard
capacity-requires-clause-shard g c κs within = let q =
    part_at g.A.PathAlgebra.meaning c.args.first.now c.index-parts-from.result c.args.parts.now c.args.shards (c.args.k / 4 / c.args.shards)
    c.requires.parts (pair_below c.args.shards c.args.k c.requires.word).0 c.index-parts-from.is in
    subst (λ n. c.args.k / 4 % c.args.shards < n)
    (sym (ap (λ u. u.plan.shards) q.0 ∙ c.requires.shards.0))
    (pair_below c.args.shards c.args.k c.requires.word).1

pub returns-then-from-to : goal.returns-then-from-to
returns-then-from-to g c = cap_own c.args.first.now.setup c.args.shards c.args.k c.requires.shards.0 c.if-from-to.true

pub returns-else-from-to : goal.returns-else-from-to
returns-else-from-to g c = let q =
    part_at g.A.PathAlgebra.meaning c.args.first.now c.index-parts-from.result c.args.parts.now c.args.shards (c.args.k / 4 / c.args.shards)
    c.requires.parts (pair_below c.args.shards c.args.k c.requires.word).0 c.index-parts-from.is in
    c.capacity.ensures
    ∙ (λ i. outbox_bound (network_of (q.0 i)) (place_in (q.0 i)) (q.1 i) (c.args.k / 4 % c.args.shards))
    ∙ cap_other c.args.first.now.setup c.args.shards c.args.k c.requires.shards.0 c.if-from-to.false

pub nonzero_div-from-2 : goal.nonzero_div-from-2
nonzero_div-from-2 g c = omega (arith, (pair_below c.args.shards c.args.k c.requires.word).0)

pub nonzero_rem-to : goal.nonzero_rem-to
nonzero_rem-to g c = omega (arith, (pair_below c.args.shards c.args.k c.requires.word).0)

pub overflow_cast-to : goal.overflow_cast-to
overflow_cast-to g c = omega (arith, (pair_below c.args.shards c.args.k c.requires.word).1, c.requires.shards.1)
