use Rattle.shard_part.proofs.Words.{[], network, state_after}
use Rattle.shard_part.proofs.WalkEnds.{extends, walk_ends_marked}
use Rattle.shard_part.proofs.laws.walk_ends_can_be_marked.Goals as goal

pub returns : goal.returns
returns g c = λ roads s R S.
    let laws = g.met.A.PathAlgebra g.world.𝓛 g.world.𝓜 g.world.𝓡 ((λ s x. x), (λ x. x), (λ x. x), λ x. x) in
    let A = g.A.PathAlgebra.meaning c.args.algebra in
    let end = c.every_diffusion_can_end.ensures.ends roads s R S [] in
    let labels = (state_after A (network roads s) end.0).label in
    let best = c.ended_runs_are_best.ensures.best roads s R S end.0 end.2 in
    (extends A (laws.lawful c.args.algebra) roads R s labels best, walk_ends_marked A (laws.lawful c.args.algebra) roads R s labels best)
