use Rattle.route_tree.proofs.Words.{◌≡◌, ◌<◌, length, refl, ap, sym, ◌∙◌, arith, subst, get_or, get_or_default, OutRoad, label_of, passes_back}
use Rattle.road_graph.specs.GraphData.{GraphData, IsGraph, HasVertex, ListsRoadsInto, arc_of}
use Rattle.route_tree.proofs.VisitingBack.{back_open, back_once, row_done, as_long, turned_at}
use Rattle.route_tree.proofs.backward.Backward.visit.Goals as goal

pub loop-road-init : goal.loop-road-init
loop-road-init g c =
    let s = c.args.self.now in
    let roads = subst (λ (g : GraphData). IsGraph g) (λ i. (c.self.view_is i).over.roads) c.self.invariant.roads in
    record {
      goes = λ target k pending numbers lists are known. back_open s.over.roads roads (passes_back (g.A.PathAlgebra.meaning s.over.algebra) s) target k _ c.args.v pending _ _ lists known;
      over = refl;
      size = refl;
    }

pub try_road-requires-after_bounds : goal.try_road-requires-after_bounds
try_road-requires-after_bounds g c κs within =
    let roads = c.self.inside.by_head.now in
    let lists = c.roads_into-road-items.ensures in
    let at = turned_at roads lists.0 c.roads_into-road-items.result.now c.args.v lists.1
    lists.2 c.loop-road.road-index c.road-item.result c.loop-road-test.true c.road-item.is in
    let in_graph = subst (λ (r : OutRoad). HasVertex roads r.head) (sym at.2) ((c.self.invariant.roads.ends (get_or lists.0 c.loop-road.road-index 0) at.0).0) in
    let here : roads ≡ c.args.self.now.over.roads = λ i. (c.self.view_is i).over.roads in
    let there : c.loop-road.self.over.roads ≡ c.args.self.now.over.roads = λ i. (c.loop-road.invariant.over i).roads in
    subst (λ (g : GraphData). HasVertex g c.road-item.result.head) (here ∙ sym there) in_graph

pub loop-road-preserved : goal.loop-road-preserved
loop-road-preserved g c =
    let s = c.args.self.now in
    let over = c.loop-road.invariant.over in
    let meaning = g.A.PathAlgebra.meaning s.over.algebra in
    let roads = subst (λ (g : GraphData). IsGraph g) (λ i. (c.self.view_is i).over.roads) c.self.invariant.roads in
    let r = c.road-item.result in
    let here : c.of-far.result ≡ label_of s.over.labels c.args.v = c.of-far.ensures ∙ (λ i. label_of (c.self.view_is i).over.labels c.args.v) in
    record {
      goes = λ target k pending numbers lists are known.
          let row = c.roads_into-road-items.result.now in
          let index = c.loop-road.road-index in
          let a = get_or numbers index 0 in
          let at = turned_at s.over.roads numbers row c.args.v lists are index r c.loop-road-test.true c.road-item.is in
          let n = as_long s.over.roads numbers row c.args.v lists are in
          let lt : index < length numbers = omega (arith, n) in
          let far : c.of-far.result ≡ label_of s.over.labels (arc_of s.over.roads a).head = here ∙ ap (label_of s.over.labels) (sym at.1) in
          back_once s.over.roads roads (passes_back meaning s) target k c.loop-road.self.marks pending c.loop-road.self.next
          numbers index a _ _ lt (get_or_default numbers index 0 a lt) (rw (over, at.2, far) at c.in_ok-try_road.ensures.marks) (rw (over, at.2, far) at c.in_ok-try_road.ensures.next)
          (c.loop-road.invariant.goes target k pending numbers lists are known);
      over = c.in_ok-try_road.ensures.over ∙ over;
      size = c.in_ok-try_road.ensures.size ∙ c.loop-road.invariant.size;
    }

pub returns-clause-visits : goal.returns-clause-visits
returns-clause-visits g c =
    let s = c.args.self.now in
    let roads = subst (λ (g : GraphData). IsGraph g) (λ i. (c.self.view_is i).over.roads) c.self.invariant.roads in
    let row = c.roads_into-road-items.result.now in
    let lists = subst (λ (g : GraphData). ListsRoadsInto g c.args.v row) (λ i. (c.self.view_is i).over.roads) c.roads_into-road-items.ensures in
    let n = as_long s.over.roads lists.0 row c.args.v lists.1 lists.2 in
    λ target k pending known. row_done s.over.roads roads (passes_back (g.A.PathAlgebra.meaning s.over.algebra) s) target k c.loop-road.self.marks pending c.loop-road.self.next
    lists.0 c.loop-road.road-index (omega (arith, n)) (c.loop-road.invariant.goes target k pending lists.0 lists.1 lists.2 known)
