use Rattle.scholten_core.proofs.Schedules.{busy_schedule_ends, going_schedule_ends, fair_schedule_ends}
use Rattle.scholten_core.proofs.laws.every_schedule_ends.Goals as goal

pub returns-clause-busy : goal.returns-clause-busy
returns-clause-busy g c = λ r s R S event B. busy_schedule_ends (g.A.PathAlgebra.meaning c.args.algebra) r s c.laws_hold.ensures.lawful R S event B

pub returns-clause-going : goal.returns-clause-going
returns-clause-going g c = λ r s R S event K. going_schedule_ends (g.A.PathAlgebra.meaning c.args.algebra) r s c.laws_hold.ensures.lawful R S event K

pub returns-clause-fair : goal.returns-clause-fair
returns-clause-fair g c = λ r s R S event F. fair_schedule_ends (g.A.PathAlgebra.meaning c.args.algebra) r s c.laws_hold.ensures.lawful R S event F
