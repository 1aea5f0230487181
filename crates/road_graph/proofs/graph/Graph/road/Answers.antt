use Rattle.road_graph.proofs.Words.{◌∙◌, subst, GraphData}
use Rattle.road_graph.specs.Making.{IsEnds, IsIndex}
use Rattle.road_graph.proofs.Entries.{road_by_entry}
use Rattle.road_graph.proofs.graph.Graph.road.Goals as goal

pub bounds-roads_from-entry : goal.bounds-roads_from-entry
bounds-roads_from-entry c =
    let known = subst (λ (h : GraphData). IsIndex h c.in-Index.entries.items) c.self.view_is
    (subst (λ ends. IsEnds c.self.inside.out ends) c.in-Index.is c.self.invariant.2) in
    (road_by_entry c.args.self.now c.in-Index.entries.items known c.args.a c.requires c.a.inside.0 c.a.view_is c.index-entry.result.now c.index-entry.ensures
    c.roads_from.result.now c.roads_from.ensures).0

pub returns-in-Index : goal.returns-in-Index
returns-in-Index c =
    let known = subst (λ (h : GraphData). IsIndex h c.in-Index.entries.items) c.self.view_is
    (subst (λ ends. IsEnds c.self.inside.out ends) c.in-Index.is c.self.invariant.2) in
    c.index-roads_from-entry.is ∙
    (road_by_entry c.args.self.now c.in-Index.entries.items known c.args.a c.requires c.a.inside.0 c.a.view_is c.index-entry.result.now c.index-entry.ensures
    c.roads_from.result.now c.roads_from.ensures).1 c.index-roads_from-entry.result
