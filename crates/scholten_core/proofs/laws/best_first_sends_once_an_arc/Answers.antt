use Rattle.scholten_core.proofs.EveryRun.{best_first_once, best_first_most, best_first_ended}
use Rattle.scholten_core.proofs.laws.best_first_sends_once_an_arc.Goals as goal

pub returns-clause-once : goal.returns-clause-once
returns-clause-once g c = λ r s R S es B. best_first_once (g.A.PathAlgebra.meaning c.args.algebra) r s c.laws_hold.ensures.lawful R S es B

pub returns-clause-most : goal.returns-clause-most
returns-clause-most g c = λ r s R S es B. best_first_most (g.A.PathAlgebra.meaning c.args.algebra) r s c.laws_hold.ensures.lawful R S es B

pub returns-clause-ended : goal.returns-clause-ended
returns-clause-ended g c = λ r s R S es B. best_first_ended (g.A.PathAlgebra.meaning c.args.algebra) r s c.laws_hold.ensures.lawful R S es B
