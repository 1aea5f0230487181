use Rattle.shard_store.proofs.Words.{◌≡◌, ◌+◌, ◌<◌, ℕ, eqb, length, length-set, ap, ◌∙◌, arith, one_if-most, shard_in}
use Rattle.std.proofs.Common.{◌*◌}
use Rattle.shard_store.specs.Crossings.{at_shards, joined}
use Rattle.shard_store.proofs.Crossings.{add_one, raised, one_within, one_between, place_inside, counted_small, counted_more}
use Rattle.shard_store.proofs.counted_plan.count_row.Goals as goal
use Rattle.shard_store.proofs.counted_plan.count_row.Goals.{then-to-from, else-to-from}

pub bounds-counts-from-in-loop-road : goal.bounds-counts-from-in-loop-road
bounds-counts-from-in-loop-road c = let r = c.requires in let v = c.shard.view_is in let w = c.to.view_is in let b = c.shard_of.ensures.within in
    place_inside c.args.plan.now.shards c.shard.inside.0 c.to.inside.0 c.loop-road.counts c.args.counts.now c.loop-road.invariant.long r.long r.few_shards (omega (arith, v, r.shard)) (omega (arith, w, b))

pub bounds-counts-from : goal.bounds-counts-from
bounds-counts-from c = let r = c.requires in let v = c.shard.view_is in let w = c.to.view_is in let b = c.shard_of.ensures.within in
    place_inside c.args.plan.now.shards c.shard.inside.0 c.to.inside.0 c.loop-road.counts c.args.counts.now c.loop-road.invariant.long r.long r.few_shards (omega (arith, v, r.shard)) (omega (arith, w, b))

pub overflow_add-counts-in-loop-road : goal.overflow_add-counts-in-loop-road
overflow_add-counts-in-loop-road c = let r = c.requires in let v = c.shard.view_is in let w = c.to.view_is in let b = c.shard_of.ensures.within in
    let x = c.shard.inside.0 in let y = c.to.inside.0 in
    let i = c.loop-road.invariant.each x y (omega (arith, v, r.shard)) (omega (arith, w, b)) in
    let m = counted_small c.args.row.now c.loop-road.road-index _ (at_shards c.loop-road.counts x y) (at_shards c.args.counts.now x y) (λ r. one_if-most _) i (r.small x y (omega (arith, v, r.shard)) (omega (arith, w, b))) r.few in omega (arith, m)

pub bounds-counts-to : goal.bounds-counts-to
bounds-counts-to c = let r = c.requires in let v = c.shard.view_is in let w = c.to.view_is in let b = c.shard_of.ensures.within in
    place_inside c.args.plan.now.shards c.to.inside.0 c.shard.inside.0 _ c.args.counts.now (length-set c.loop-road.counts _ _ ∙ c.loop-road.invariant.long) r.long r.few_shards (omega (arith, w, b)) (omega (arith, v, r.shard))

pub bounds-counts-to-then-to-from : goal.bounds-counts-to-then-to-from
bounds-counts-to-then-to-from c = let r = c.requires in let v = c.shard.view_is in let w = c.to.view_is in let b = c.shard_of.ensures.within in
    place_inside c.args.plan.now.shards c.to.inside.0 c.shard.inside.0 _ c.args.counts.now (length-set c.loop-road.counts _ _ ∙ c.loop-road.invariant.long) r.long r.few_shards (omega (arith, w, b)) (omega (arith, v, r.shard))

pub overflow_add-counts-then-to-from-2 : goal.overflow_add-counts-then-to-from-2
overflow_add-counts-then-to-from-2 c = let r = c.requires in let v = c.shard.view_is in let w = c.to.view_is in let b = c.shard_of.ensures.within in
    let x = c.shard.inside.0 in let y = c.to.inside.0 in
    let lx : x < c.args.plan.now.shards = omega (arith, v, r.shard) in let ly : y < c.args.plan.now.shards = omega (arith, w, b) in
    let i = c.loop-road.invariant.each y x ly lx in
    let m = counted_small c.args.row.now c.loop-road.road-index _ (at_shards c.loop-road.counts y x) (at_shards c.args.counts.now y x) (λ r. one_if-most _) i (r.small y x ly lx) r.few in
    let a = add_one c.loop-road.counts (64 * x + y) (64 * y + x) (place_inside c.args.plan.now.shards x y c.loop-road.counts c.args.counts.now c.loop-road.invariant.long r.long r.few_shards lx ly) in
    let o = one_if-most (eqb (64 * y + x) (64 * x + y)) in omega (arith, m, a, o)

pub loop-road-preserved : goal.loop-road-preserved
loop-road-preserved c = let r = c.requires in let v = c.shard.view_is in let w = c.to.view_is in let b = c.shard_of.ensures.within in
    let x = c.shard.inside.0 in let y = c.to.inside.0 in let n = c.args.plan.now.shards in let cs = c.loop-road.counts in
    let lx : x < n = omega (arith, v, r.shard) in let ly : y < n = omega (arith, w, b) in
    let inside = place_inside n x y cs c.args.counts.now c.loop-road.invariant.long r.long r.few_shards lx ly in
    let other = place_inside n y x cs c.args.counts.now c.loop-road.invariant.long r.long r.few_shards ly lx in
    let same : (s t : ℕ) → joined s t x y ≡ joined s t c.args.shard (shard_in c.args.plan.now c.road-item.result.head) = λ s t i. joined s t (v i) ((w ∙ c.shard_of.ensures.shard) i) in
    elim c.if-to-from.branch [
      | then-to-from u ↦ record {
        long = ap length u.counts-is ∙ length-set (raised cs (64 * x + y)) _ _ ∙ length-set cs _ _ ∙ c.loop-road.invariant.long;
        each = λ s t ls lt. counted_more c.args.row.now c.loop-road.road-index _ c.road-item.result _ _ _ (joined s t x y)
            (ap (λ m. at_shards m s t) u.counts-is ∙ one_between cs s t x y (omega (arith, lt, r.few_shards)) (omega (arith, lx, r.few_shards)) (omega (arith, ly, r.few_shards)) inside (λ e. omega (arith, e, u.if-to-from.true)) other)
            (c.loop-road.invariant.each s t ls lt) (same s t) c.loop-road-test.true c.road-item.is;
      }
      | else-to-from u ↦ record {
        long = ap length u.counts-is ∙ length-set cs _ _ ∙ c.loop-road.invariant.long;
        each = λ s t ls lt. counted_more c.args.row.now c.loop-road.road-index _ c.road-item.result _ _ _ (joined s t x y)
            (ap (λ m. at_shards m s t) u.counts-is ∙ one_within cs s t x y (omega (arith, lt, r.few_shards)) (omega (arith, lx, r.few_shards)) (omega (arith, ly, r.few_shards)) inside (omega (arith, u.if-to-from.false)))
            (c.loop-road.invariant.each s t ls lt) (same s t) c.loop-road-test.true c.road-item.is;
      }
    ]
