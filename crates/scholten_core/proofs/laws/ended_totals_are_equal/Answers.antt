use Rattle.scholten_core.proofs.EveryRun.{totals_are_equal}
use Rattle.scholten_core.proofs.laws.ended_totals_are_equal.Goals as goal

pub returns : goal.returns
returns g c = λ r s R S es q. totals_are_equal (g.A.PathAlgebra.meaning c.args.algebra) r s c.laws_hold.ensures.lawful R S.0 es q
