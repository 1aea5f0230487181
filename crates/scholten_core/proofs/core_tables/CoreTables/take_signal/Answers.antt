use Rattle.scholten_core.proofs.Words.{ap, ◌∙◌, subst, IsLawful, network_of, state_of, freed}
use Rattle.scholten_core.proofs.Pumping.{offer_then, freed_pump}
use Rattle.scholten_core.proofs.core_tables.CoreTables.take_signal.Goals as goal

pub returns-clause-state : goal.returns-clause-state
returns-clause-state g c =
    offer_then g.A.PathAlgebra.meaning c.args.self.now c.free.new.self c.offer.new.self c.args.v c.args.a
    (freed (g.A.PathAlgebra.meaning c.args.self.now.diffusion.algebra) (network_of c.args.self.now) c.args.a (state_of c.args.self.now))
    c.free.ensures.same c.free.ensures.state c.offer.ensures.state
    ∙ freed_pump (g.A.PathAlgebra.meaning c.args.self.now.diffusion.algebra) (network_of c.args.self.now)
    (subst (λ a. IsLawful (g.A.PathAlgebra.meaning a)) (ap (λ u. u.diffusion.algebra) c.self.view_is) c.laws_hold.ensures.lawful)
    c.args.a c.args.v (state_of c.args.self.now) c.requires.tail c.requires.vertex.0 c.requires.told
