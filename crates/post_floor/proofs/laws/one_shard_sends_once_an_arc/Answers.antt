use Rattle.std.proofs.Common.{subst, sym, ◌+◌, ◌≤◌}
use Rattle.scholten_core.specs.Accounts.{count_marked}
use Rattle.scholten_core.proofs.EveryRun.{best_first_most, best_first_once}
use Rattle.post_floor.proofs.laws.one_shard_sends_once_an_arc.Goals as goal

pub returns-clause-once : goal.returns-clause-once
returns-clause-once g c = λ t s planned one r a.
    let laws = g.met.A.PathAlgebra g.world.𝓛 g.world.𝓜 g.world.𝓡 ((λ s x. x), (λ x. x), (λ x. x), λ x. x) in
    best_first_once (g.A.PathAlgebra.meaning t.diffusion.algebra) t.diffusion.roads t.diffusion.source (laws.lawful t.diffusion.algebra) planned.roads planned.source r.events (r.best planned one) a

pub returns-clause-most : goal.returns-clause-most
returns-clause-most g c = λ t s planned one r marked covers.
    let laws = g.met.A.PathAlgebra g.world.𝓛 g.world.𝓜 g.world.𝓡 ((λ s x. x), (λ x. x), (λ x. x), λ x. x) in
    let roads = t.diffusion.roads in
    subst (λ n. n ≤ 1 + count_marked roads marked) (sym r.counts.sent)
    (best_first_most (g.A.PathAlgebra.meaning t.diffusion.algebra) roads t.diffusion.source (laws.lawful t.diffusion.algebra) planned.roads planned.source r.events (r.best planned one) marked covers)
