use Rattle.scholten_core.proofs.Words.{ap, ◌∙◌, sym, subst, IsLawful, network_of, state_of, arrive}
use Rattle.scholten_core.proofs.Pumping.{pump_leaves, unimproved_pump}
use Rattle.scholten_core.proofs.core_tables.CoreTables.take_message.Goals as goal

pub returns-then-arrive-clause-state : goal.returns-then-arrive-clause-state
returns-then-arrive-clause-state g c =
    pump_leaves g.A.PathAlgebra.meaning c.args.self.now c.arrive.new.self c.pump.new.self c.args.v
    (arrive (g.A.PathAlgebra.meaning c.args.self.now.diffusion.algebra) (network_of c.args.self.now) c.args.a c.args.value (state_of c.args.self.now))
    c.arrive.ensures.same c.arrive.ensures.state c.pump.ensures.state

pub returns-else-arrive-clause-state : goal.returns-else-arrive-clause-state
returns-else-arrive-clause-state g c =
    c.arrive.ensures.state ∙ unimproved_pump (g.A.PathAlgebra.meaning c.args.self.now.diffusion.algebra) (network_of c.args.self.now)
    (subst (λ a. IsLawful (g.A.PathAlgebra.meaning a)) (ap (λ u. u.diffusion.algebra) c.self.view_is) c.laws_hold.ensures.lawful)
    c.args.a c.args.v c.args.value (state_of c.args.self.now) c.requires.head c.requires.vertex.0 c.requires.busy c.requires.told (sym c.arrive.ensures.improved ∙ c.if-arrive.false)
