use Rattle.station.proofs.Words.{◌≡◌, ◌∷◌, [], refl, sym, subst, IsBestLabel, HasPlanned, shard_in}
use Rattle.station.proofs.Places.{own_of}
use Rattle.station.proofs.finished.Finished.label.Goals as goal

pub label-requires-after_bounds : goal.label-requires-after_bounds
label-requires-after_bounds g c κs within = own_of c.self.inside.part _ c.args.v c.closed_part_holds.ensures.planned
    (subst (λ z. HasPlanned z.part.setup.plan c.args.v) (sym c.self.view_is) c.requires.vertex) (subst (λ z. shard_in z.part.setup.plan c.args.v ≡ z.part.shard) (sym c.self.view_is) c.requires.own)

pub returns : goal.returns
returns g c =
    let p = c.self.inside.part in let meaning = g.A.PathAlgebra.meaning in
    let own = own_of p _ c.args.v c.closed_part_holds.ensures.planned
    (subst (λ z. HasPlanned z.part.setup.plan c.args.v) (sym c.self.view_is) c.requires.vertex)
    (subst (λ z. shard_in z.part.setup.plan c.args.v ≡ z.part.shard) (sym c.self.view_is) c.requires.own) in
    subst (λ z. IsBestLabel (meaning z.part.setup.diffusion.algebra) z.part.setup.diffusion.roads (z.part.setup.diffusion.source ∷ []) c.args.v c.label.result) c.self.view_is
    (subst (IsBestLabel (meaning p.setup.diffusion.algebra) p.setup.diffusion.roads (p.setup.diffusion.source ∷ []) c.args.v) (sym c.label.ensures)
    ((c.self.invariant.0.over refl).part.best c.args.v own))
