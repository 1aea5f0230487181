use Rattle.station.proofs.Words.{subst, sym, IfSome, ◌∷◌, [], IsWalkValue, IsOwn}
use Rattle.station.proofs.Turns.{walks}
use Rattle.station.proofs.station.Station.peek.Goals as goal

pub returns-clause-walk : goal.returns-clause-walk
returns-clause-walk g c =
    let laws = g.met.A.PathAlgebra g.world.𝓛 g.world.𝓜 g.world.𝓡 ((λ s x. x), (λ x. x), (λ x. x), λ x. x) in
    subst (λ z. IfSome c.label.result
    (λ x. IsWalkValue (g.A.PathAlgebra.meaning z.part.setup.diffusion.algebra) z.part.setup.diffusion.roads (z.part.setup.diffusion.source ∷ [])
    c.args.v x)) c.self.view_is
    (walks g.A.PathAlgebra.meaning laws.lawful c.self.inside.part _ c.part_holds.ensures.planned c.self.invariant.0.known c.args.v
    (subst (λ z. IsOwn z.part c.args.v) (sym c.self.view_is) c.requires) c.label.result c.label.ensures)
