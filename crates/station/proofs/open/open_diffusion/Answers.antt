use Rattle.station.proofs.Words.{◌≡◌, subst, sym, refl, ap, ◌∙◌, All, HoldsReachedShare, IsFreshPart, setup_of}
use Rattle.station.proofs.Opening.{all_fresh, floor_setup, are_opened}
use Rattle.station.proofs.open.open_diffusion.Goals as goal

pub open-requires-clause-fresh : goal.open-requires-clause-fresh
open-requires-clause-fresh g c κs within = rw c.plan-plan.ensures.plan (
  setup_of c.args.algebra c.args.graph.now c.args.source c.args.counted.now.plan c.args.order,
  c.deref.ensures.value ∙ c.in_ok-parts.ensures.parts,
  refl,
  refl,
)

pub pair-requires-clause-parts : goal.pair-requires-clause-parts
pair-requires-clause-parts g c κs within =
    let meaning = g.A.PathAlgebra.meaning in let e = c.in_ok-parts.ensures in let f = c.in_ok-floor.floor in
    let q = floor_setup (meaning c.args.algebra) f
    (setup_of c.args.algebra c.args.graph.now c.args.source c.args.counted.now.plan c.args.order)
    c.in_ok-parts.parts.items
    (rw c.plan-plan.ensures.plan at c.plan_holds.ensures.within.0) e.parts (subst (All (λ p. p.setup ≡ f.setup)) c.deref.ensures.value c.in_ok-floor.ensures.floor.1) in
    subst (All (IsFreshPart meaning f)) (sym e.parts)
    (all_fresh meaning f (setup_of c.args.algebra c.args.graph.now c.args.source c.args.counted.now.plan c.args.order) 0 c.args.counted.now.plan.shards q
    (subst (All (HoldsReachedShare meaning)) e.parts e.known))

pub pair-requires-clause-order : goal.pair-requires-clause-order
pair-requires-clause-order g c κs within =
    let e = c.in_ok-parts.ensures in let f = c.in_ok-floor.floor in
    ap (λ t. t.order) (sym (floor_setup (g.A.PathAlgebra.meaning c.args.algebra) f
    (setup_of c.args.algebra c.args.graph.now c.args.source c.args.counted.now.plan c.args.order)
    c.in_ok-parts.parts.items
    (rw c.plan-plan.ensures.plan at c.plan_holds.ensures.within.0) e.parts (subst (All (λ p. p.setup ≡ f.setup)) c.deref.ensures.value c.in_ok-floor.ensures.floor.1)))

pub returns : goal.returns
returns g c =
    are_opened g.A.PathAlgebra.meaning c.in_ok-floor.floor
    (setup_of c.args.algebra c.args.graph.now c.args.source c.args.counted.now.plan c.args.order)
    c.in_ok-parts.parts.items c.in_ok-stations.stations.items
    (rw c.plan-plan.ensures.plan at c.plan_holds.ensures.within.0) c.in_ok-parts.ensures.parts (subst (All (λ p. p.setup ≡ c.in_ok-floor.floor.setup)) c.deref.ensures.value c.in_ok-floor.ensures.floor.1) c.in_ok-stations.ensures c.in_ok-floor.ensures.unheld
