use Rattle.shard_part.proofs.Words.{◌∙◌, ◌<◌, length, rules, ap, VertexAt}
use Rattle.shard_part.proofs.Pumping.{vertex_at, road_found}
use Rattle.shard_part.proofs.state.PartState.road_at.Goals as goal

pub roads_from-requires : goal.roads_from-requires
roads_from-requires g c = rw (ap (λ (w : VertexAt). w.vertex) c.v.view_is)
    (vertex_at (g.A.PathAlgebra.meaning c.args.self.now.setup.diffusion.algebra) _ c.args.self.now _ _ _ c.args.v.vertex c.args.v.at c.self.view_is
    c.self.invariant c.requires.place c.requires.vertex)

pub offset_bounds-roads_from-k : goal.offset_bounds-roads_from-k
offset_bounds-roads_from-k g c = let l : c.args.k < length c.roads_from.result.now =
    (road_found (g.A.PathAlgebra.meaning c.args.self.now.setup.diffusion.algebra) _ c.args.self.now _ _ _ c.args.v.vertex c.args.v.at c.args.k
    c.roads_from.result.now (record { head = 0; weight = 0 }) c.self.view_is c.self.invariant c.requires.place c.requires.vertex
    (rw (ap (λ (w : VertexAt). w.vertex) c.v.view_is) at c.roads_from.ensures) c.requires.inside).0 in search rules

pub bounds-roads_from-k : goal.bounds-roads_from-k
bounds-roads_from-k g c = (road_found (g.A.PathAlgebra.meaning c.args.self.now.setup.diffusion.algebra) _ c.args.self.now _ _ _ c.args.v.vertex
    c.args.v.at c.args.k c.roads_from.result.now (record { head = 0; weight = 0 }) c.self.view_is c.self.invariant c.requires.place c.requires.vertex
    (rw (ap (λ (w : VertexAt). w.vertex) c.v.view_is) at c.roads_from.ensures) c.requires.inside).0

pub returns : goal.returns
returns g c = c.index-roads_from-k.is ∙ (road_found (g.A.PathAlgebra.meaning c.args.self.now.setup.diffusion.algebra) _ c.args.self.now _ _ _
    c.args.v.vertex c.args.v.at c.args.k c.roads_from.result.now c.index-roads_from-k.result c.self.view_is c.self.invariant c.requires.place
    c.requires.vertex (rw (ap (λ (w : VertexAt). w.vertex) c.v.view_is) at c.roads_from.ensures) c.requires.inside).1
