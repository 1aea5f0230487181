use Rattle.shard_part.proofs.Words.{ap, sym, ◌∙◌}
use Rattle.shard_part.proofs.ToldKept.{opened_told}
use Rattle.shard_part.proofs.part.Part.open.Goals as goal

pub invariant_of-layout : goal.invariant_of-layout
invariant_of-layout g c = record {
  roads = c.roads_hold.ensures;
  source = c.requires.source;
  plan = c.plan_holds.ensures.plan;
  covers = rw c.plan-plan.ensures.plan (c.plan-plan.ensures.covers ∙ ap (λ r. r.vertices) c.requires.graph);
  shard = rw c.plan-plan.ensures.plan c.requires.shard;
}

pub open-requires-after_bounds : goal.open-requires-after_bounds
open-requires-after_bounds g c κs within = λ i. record { roads = c.requires.graph i; plan = sym c.plan-plan.ensures.plan i }

pub invariant_of-result : goal.invariant_of-result
invariant_of-result g c = opened_told (g.A.PathAlgebra.meaning c.args.algebra) _ _ _ c.in_ok-state.ensures.part
