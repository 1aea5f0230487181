use Rattle.path_plain.proofs.Words.{◌≡◌, [], length, drop, arith, sym, ap, subst, ◌∙◌, common_steps, GraphData, Relaxes}
use Rattle.std.proofs.Math.ListN.{drop_of_length-le}
use Rattle.path_plain.proofs.Offering.{relaxed_by_roads, relaxed_is, head_in, roads_short}
use Rattle.path_plain.proofs.search.Search.relax.Goals as goal

pub offer_if-requires-after_bounds : goal.offer_if-requires-after_bounds
offer_if-requires-after_bounds g c κs within =
    let h = head_in c.args.graph.now c.holds.ensures c.args.v c.roads_from-road-items.result.now c.roads_from-road-items.ensures c.loop-road.road-index c.road-item.result
    c.loop-road-test.true c.road-item.is in
    let here : c.args.graph.now.vertices ≡ c.args.self.now.roads.vertices = λ i. (c.requires.graph i).vertices in
    let there : c.loop-road.self.roads.vertices ≡ c.args.self.now.roads.vertices = λ i. (c.loop-road.invariant.same.of_same.roads i).vertices in
    (h.0, omega (arith, h.1, here, there))

pub returns-clause-relaxes : goal.returns-clause-relaxes
returns-clause-relaxes g c =
    let A = g.A.PathAlgebra.meaning c.self.inside.algebra in
    let out = c.roads_from-road-items.result.now in
    let labels = c.args.self.now.labels in
    let lists = c.roads_from-road-items.ensures in
    let past : drop c.loop-road.road-index out ≡ [] = drop_of_length-le out (omega arith) in
    let done : c.loop-road.self.labels ≡ relaxed_by_roads A c.args.x labels out = rw past at c.loop-road.invariant.so_far in
    let here : Relaxes A c.args.graph.now c.args.v c.args.x labels c.loop-road.self.labels =
    (lists.0, lists.1, done ∙ ap (relaxed_by_roads A c.args.x labels) lists.2 ∙ sym (relaxed_is A c.args.graph.now c.args.x labels lists.0)) in
    subst (λ (a : g.row.A.Denot). Relaxes (g.A.PathAlgebra.meaning a) c.args.self.now.roads c.args.v c.args.x labels c.loop-road.self.labels) (λ i. (c.self.view_is i).algebra)
    (subst (λ (r : GraphData). Relaxes A r c.args.v c.args.x labels c.loop-road.self.labels) c.requires.graph here)

pub returns-clause-few : goal.returns-clause-few
returns-clause-few g c =
    let here : length c.args.graph.now.arcs ≡ length c.args.self.now.roads.arcs = λ i. length ((c.requires.graph i).arcs) in
    omega (arith, roads_short c.args.graph.now c.args.v c.roads_from-road-items.result.now c.roads_from-road-items.ensures, c.loop-road.invariant.few, c.loop-road.auto.road-index-end, here)

pub loop-road-preserved : goal.loop-road-preserved
loop-road-preserved g c = grind (arith, common_steps)
