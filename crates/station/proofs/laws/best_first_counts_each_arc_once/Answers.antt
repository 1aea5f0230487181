use Rattle.station.proofs.ExactCounts.{best_first_once_an_arc}
use Rattle.station.proofs.laws.best_first_counts_each_arc_once.Goals as goal

pub returns : goal.returns
returns g c = λ t found one G marked M.
    let laws = g.met.A.PathAlgebra g.world.𝓛 g.world.𝓜 g.world.𝓡 ((λ s x. x), (λ x. x), (λ x. x), λ x. x) in
    best_first_once_an_arc g.A.PathAlgebra.meaning t found (laws.lawful t.diffusion.algebra) one G marked M
