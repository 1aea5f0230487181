use Rattle.path_plain.proofs.Existing.{best_from_all}
use Rattle.path_plain.proofs.laws.best_values_exist.Goals as goal

pub returns : goal.returns
returns g c = λ G roads sources inside. best_from_all (g.A.PathAlgebra.meaning c.args.algebra) c.laws_hold.ensures.lawful G roads sources inside
