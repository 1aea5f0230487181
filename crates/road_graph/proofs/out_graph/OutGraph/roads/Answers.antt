use Rattle.road_graph.proofs.Words.{◌≡◌, ℕ, List, subst, sym, Tail, OutRoad, GraphData, roads_of, AreNumbers}
use Rattle.road_graph.proofs.OneRows.{with_roads}
use Rattle.road_graph.proofs.out_graph.OutGraph.roads.Goals as goal

pub returns : goal.returns
returns c = λ (numbers : List ℕ) are.
    let G : GraphData = record { vertices = c.self.inside.vertices; arcs = c.self.inside.arcs.value.list } in
    let is : G ≡ c.args.self.now = c.self.view_is in
    let here : AreNumbers Tail G numbers = subst (λ (h : GraphData). AreNumbers Tail h numbers) (sym is) are in
    subst (λ (xs : List OutRoad). xs ≡ roads_of c.args.self.now numbers) (sym c.as_slice.ensures.value)
    (subst (λ (h : GraphData). c.self.inside.roads.items ≡ roads_of h numbers) is (with_roads G c.self.inside.starts.items c.self.inside.roads.items c.self.invariant.1 numbers here))
