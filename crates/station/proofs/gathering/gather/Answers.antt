use Rattle.station.proofs.Words.{ℕ, ◌<◌, ◌∷◌, [], sym, subst, AreBest, IsThere}
use Rattle.station.proofs.Closed.{all_counted, all_seated, gathered}
use Rattle.station.proofs.gathering.gather.Goals as goal

pub unreachable-requires : goal.unreachable-requires
unreachable-requires g c =
    let f = c.args.floor in
    let there = subst (λ ss. (j : ℕ) → j < f.setup.plan.shards → IsThere ss j) c.deref.ensures.value c.in-Ok.ensures.there in
    c.in_default.ensures.refused.0 (all_seated f.id f.setup.plan.shards c.args.stations.items c.hand_over-seats.result.0.items c.hand_over-seats.result.1 there c.hand_over-seats.ensures)

pub returns-in-Ok-close-clause-gathered : goal.returns-in-Ok-close-clause-gathered
returns-in-Ok-close-clause-gathered g c =
    let laws = g.met.A.PathAlgebra g.world.𝓛 g.world.𝓜 g.world.𝓡 ((λ s x. x), (λ x. x), (λ x. x), λ x. x) in
    let f = c.args.floor in let A = g.A.PathAlgebra.meaning f.setup.diffusion.algebra in let closed = c.in-Ok-close.ensures.closed in
    let there = subst (λ ss. (j : ℕ) → j < f.setup.plan.shards → IsThere ss j) c.deref.ensures.value c.in-Ok.ensures.there in (
      there,
      gathered g.A.PathAlgebra.meaning laws.lawful f.setup 0 f.id c.args.stations.items c.hand_over-seats.result.0.items c.hand_over-seats.result.1
          c.from_vec-labels.result closed.1.0 _ _ c.in-Ok.ensures.planned
          (subst (AreBest A f.setup.diffusion.roads (f.setup.diffusion.source ∷ [])) (sym c.from_vec-labels.ensures) c.in-Ok.ensures.labels) closed.0 c.hand_over-seats.ensures closed.1.1 closed.1.2,
    )

pub returns-in-Ok-close-clause-counted : goal.returns-in-Ok-close-clause-counted
returns-in-Ok-close-clause-counted g c =
    all_counted c.args.floor.id c.args.stations.items c.hand_over-seats.result.0.items c.hand_over-seats.result.1 c.hand_over-seats.ensures
