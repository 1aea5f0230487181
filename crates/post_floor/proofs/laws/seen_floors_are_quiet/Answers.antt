use Rattle.post_floor.specs.Floor.{flat, in_transit}
use Rattle.post_floor.proofs.Quiet.{all_over}
use Rattle.post_floor.proofs.laws.seen_floors_are_quiet.Goals as goal

pub returns-clause-kept : goal.returns-clause-kept
returns-clause-kept g c = λ t s P r id v at seen.
    let laws = g.met.A.PathAlgebra g.world.𝓛 g.world.𝓜 g.world.𝓡 ((λ s x. x), (λ x. x), (λ x. x), λ x. x) in
    (r.events, all_over g.A.PathAlgebra.meaning t laws.lawful P (flat s.views) (in_transit t.plan.shards s.words s.homes) r.events r.shown (r.done (r.seen id v at seen)))

pub returns-clause-settled : goal.returns-clause-settled
returns-clause-settled g c = λ t v words homes P r seen.
    let laws = g.met.A.PathAlgebra g.world.𝓛 g.world.𝓜 g.world.𝓡 ((λ s x. x), (λ x. x), (λ x. x), λ x. x) in
    (r.events, all_over g.A.PathAlgebra.meaning t laws.lawful P v.parts (in_transit t.plan.shards words homes) r.events r.shown (r.seen seen))
