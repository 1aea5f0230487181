use Rattle.road_graph.proofs.Words.{◌≡◌, ◌-◌, take, drop, subst, sym, ◌∙◌, get_or, GraphData, HasVertex, ListsRoadsFrom}
use Rattle.road_graph.proofs.Reading.{row_lists_roads}
use Rattle.road_graph.proofs.out_graph.OutGraph.roads_from.Goals as goal

pub returns : goal.returns
returns c =
    let G : GraphData = record { vertices = c.self.inside.vertices; arcs = c.self.inside.arcs.value.list } in
    let is : G ≡ c.args.self.now = c.self.view_is in
    let in_v : HasVertex G c.args.v = subst (λ (h : GraphData). HasVertex h c.args.v) (sym is) c.requires in
    let starts = c.self.inside.starts.items in
    let rows = c.self.invariant.1 in
    let start : c.range_of-start.result.0 ≡ get_or starts (c.args.v - 1) 0 = rw (← c.deref.ensures.value) c.range_of-start.ensures.start in
    let past : c.range_of-start.result.1 ≡ get_or starts c.args.v 0 = rw (← c.deref.ensures.value) c.range_of-start.ensures.end in
    subst (λ (h : GraphData). ListsRoadsFrom h c.args.v (take (c.range_of-start.result.1 - c.range_of-start.result.0) (drop c.range_of-start.result.0 c.deref-2.result.now))) is
    (row_lists_roads G c.args.v in_v starts rows.numbers c.range_of-start.result.0 c.range_of-start.result.1 start past c.deref-2.result.now (c.deref-2.ensures.value ∙ rows.roads_are) rows.rows)
