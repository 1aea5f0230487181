use Rattle.scholten_core.proofs.Ending.{can_end, stops_ended}
use Rattle.scholten_core.proofs.laws.every_diffusion_can_end.Goals as goal

pub returns-clause-ends : goal.returns-clause-ends
returns-clause-ends g c = λ r s R S es. can_end (g.A.PathAlgebra.meaning c.args.algebra) r s c.laws_hold.ensures.lawful R S es

pub returns-clause-stops : goal.returns-clause-stops
returns-clause-stops g c = λ r s R S es h. stops_ended (g.A.PathAlgebra.meaning c.args.algebra) r s c.laws_hold.ensures.lawful R S es h
