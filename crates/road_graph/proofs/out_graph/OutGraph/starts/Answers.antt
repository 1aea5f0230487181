use Rattle.road_graph.proofs.Words.{◌≡◌, ℕ, List, subst, sym, Tail, GraphData, AreRows, AreNumbers}
use Rattle.road_graph.proofs.OneRows.{with_starts}
use Rattle.road_graph.proofs.out_graph.OutGraph.starts.Goals as goal

pub returns-clause-all : goal.returns-clause-all
returns-clause-all c = λ (numbers : List ℕ) are.
    let G : GraphData = record { vertices = c.self.inside.vertices; arcs = c.self.inside.arcs.value.list } in
    let is : G ≡ c.args.self.now = c.self.view_is in
    let here : AreNumbers Tail G numbers = subst (λ (h : GraphData). AreNumbers Tail h numbers) (sym is) are in
    subst (λ (xs : List ℕ). AreRows Tail c.args.self.now.vertices c.args.self.now.arcs xs numbers) (sym c.as_slice.ensures.value)
    (subst (λ (h : GraphData). AreRows Tail h.vertices h.arcs c.self.inside.starts.items numbers) is
    (with_starts G c.self.inside.starts.items c.self.inside.roads.items c.self.invariant.1 numbers here))
