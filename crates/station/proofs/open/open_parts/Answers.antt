use Rattle.station.proofs.Words.{◌≡◌, ◌∷◌, [], subst, sym, ap, ◌∙◌, arith, All, opened_parts, all_append, HoldsReachedShare, setup_of}
use Rattle.station.proofs.Opening.{opened_next, known_opened}
use Rattle.station.proofs.open.open_parts.Goals as goal

pub loop-shard-preserved : goal.loop-shard-preserved
loop-shard-preserved g c =
    let i = c.loop-shard.invariant in let p = c.in_ok-part.part in let meaning = g.A.PathAlgebra.meaning in let e = c.in_ok-part.ensures in
    record {
      parts = opened_next (meaning c.args.algebra)
          (setup_of c.args.algebra c.args.graph.now c.args.source c.args.counted.now.plan c.args.order)
          c.loop-shard.shard c.loop-shard.parts.items c.push.new.list.items p i.parts e.part c.in_ok-push.ensures;
      known = subst (All (HoldsReachedShare meaning)) (sym c.in_ok-push.ensures) (all_append (HoldsReachedShare meaning) c.loop-shard.parts.items (p ∷ []) i.known (
        known_opened meaning
            (setup_of c.args.algebra c.args.graph.now c.args.source c.args.counted.now.plan c.args.order)
            c.loop-shard.shard p e.part e.share,
        tt,
      ));
    }

pub open-requires-clause-shard : goal.open-requires-clause-shard
open-requires-clause-shard g c κs within =
    let low = c.loop-shard-test.true in let n = c.shards-shard-end.ensures.count ∙ ap (λ p. p.shards) c.plan-plan.ensures.plan in omega (arith, low, n)

pub returns-clause-parts : goal.returns-clause-parts
returns-clause-parts g c =
    let low = c.loop-shard-test.false in let high = c.loop-shard.auto.shard-end in let n = c.shards-shard-end.ensures.count ∙ ap (λ p. p.shards) c.plan-plan.ensures.plan in
    let last : c.loop-shard.shard ≡ c.args.counted.now.plan.shards = omega (arith, low, high, n) in
    c.loop-shard.invariant.parts
    ∙ ap (opened_parts (g.A.PathAlgebra.meaning c.args.algebra)
    (setup_of c.args.algebra c.args.graph.now c.args.source c.args.counted.now.plan c.args.order) 0) last
