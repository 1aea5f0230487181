use Rattle.scholten_core.proofs.EveryRun.{ended_is_quiet, ended_is_best}
use Rattle.scholten_core.proofs.laws.ended_runs_are_best.Goals as goal

pub returns-clause-quiet : goal.returns-clause-quiet
returns-clause-quiet g c = λ r s R S es q. ended_is_quiet (g.A.PathAlgebra.meaning c.args.algebra) r s c.laws_hold.ensures.lawful R S.0 es q

pub returns-clause-best : goal.returns-clause-best
returns-clause-best g c = λ r s R S es q. ended_is_best (g.A.PathAlgebra.meaning c.args.algebra) r s c.laws_hold.ensures.lawful R S.0 es q
