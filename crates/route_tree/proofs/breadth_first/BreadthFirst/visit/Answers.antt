use Rattle.route_tree.proofs.Words.{◌≡◌, get_or, arith, sym, ◌∙◌, subst, refl, OutRoad, label_of}
use Rattle.road_graph.specs.GraphData.{GraphData, IsGraph, HasVertex, ListsRoadsFrom}
use Rattle.route_tree.specs.BreadthFirst.{passes, passes_road}
use Rattle.route_tree.proofs.OneVertex.{visit_open, visit_road, arcs_done, same_length, road_at, is_tight_by_road}
use Rattle.route_tree.proofs.breadth_first.BreadthFirst.visit.Goals as goal

pub loop-road-init : goal.loop-road-init
loop-road-init g c =
    let s = c.args.self.now in
    record {
      goes = λ sources pending numbers lists are known. visit_open s.over.roads (passes (g.A.PathAlgebra.meaning s.over.algebra) s) sources s.level s.hops s.parents c.args.v
          pending s.next numbers lists known;
      same = record { over = refl; region = refl; level = refl };
      size = refl;
    }

pub try_road-requires-clause-head : goal.try_road-requires-clause-head
try_road-requires-clause-head g c κs within =
    let roads = c.self.inside.graph.now in
    let lists = c.roads_from-road-items.ensures in
    let at = road_at roads c.args.v lists.0 lists.1 c.roads_from-road-items.result.now lists.2 c.loop-road.road-index c.road-item.result c.loop-road-test.true c.road-item.is in
    let in_graph = subst (λ (r : OutRoad). HasVertex roads r.head) (sym at.2) ((c.self.invariant.roads.ends (get_or lists.0 c.loop-road.road-index 0) at.0).1) in
    let here : roads ≡ c.args.self.now.over.roads = λ i. (c.self.view_is i).over.roads in
    let there : c.loop-road.self.over.roads ≡ c.args.self.now.over.roads = λ i. (c.loop-road.invariant.same.over i).roads in
    subst (λ (g : GraphData). HasVertex g c.road-item.result.head) (here ∙ sym there) in_graph

pub loop-road-preserved : goal.loop-road-preserved
loop-road-preserved g c =
    let s = c.args.self.now in
    let now = c.loop-road.self in
    let same = c.loop-road.invariant.same in
    let meaning = g.A.PathAlgebra.meaning s.over.algebra in
    let roads = subst (λ (g : GraphData). IsGraph g) (λ i. (c.self.view_is i).over.roads) c.self.invariant.roads in
    let near : c.of-near.result ≡ label_of s.over.labels c.args.v = c.of-near.ensures ∙ (λ i. label_of (c.self.view_is i).over.labels c.args.v) in
    let r = c.road-item.result in
    record {
      goes = λ sources pending numbers lists are known.
          let out = c.roads_from-road-items.result.now in
          let at = road_at s.over.roads c.args.v numbers lists out are c.loop-road.road-index r c.loop-road-test.true c.road-item.is in
          let n = same_length s.over.roads c.args.v numbers lists out are in
          let a = get_or numbers c.loop-road.road-index 0 in
          let test = is_tight_by_road meaning s.over.roads s.over.labels s.region a c.args.v r c.of-near.result at.1 at.2 near in
          visit_road s.over.roads roads (passes meaning s) sources s.level now.hops now.parents c.args.v pending now.next
          numbers c.loop-road.road-index r (passes_road meaning s c.of-near.result r.head r.weight) _ _ _ (omega (arith, n)) at.1 at.2 test
          (rw (same.over, same.region, same.level) at c.in_ok-try_road.ensures.hops) (rw (same.over, same.region, same.level) at c.in_ok-try_road.ensures.parents)
          (rw (same.over, same.region) at c.in_ok-try_road.ensures.next) (c.loop-road.invariant.goes sources pending numbers lists are known);
      same = record {
        over = c.in_ok-try_road.ensures.same.over ∙ same.over;
        region = c.in_ok-try_road.ensures.same.region ∙ same.region;
        level = c.in_ok-try_road.ensures.same.level ∙ same.level;
      };
      size = c.in_ok-try_road.ensures.size ∙ c.loop-road.invariant.size;
    }

pub returns-clause-visits : goal.returns-clause-visits
returns-clause-visits g c =
    let s = c.args.self.now in
    let out = c.roads_from-road-items.result.now in
    let lists = subst (λ (g : GraphData). ListsRoadsFrom g c.args.v out) (λ i. (c.self.view_is i).over.roads) c.roads_from-road-items.ensures in
    let n = same_length s.over.roads c.args.v lists.0 lists.1 out lists.2 in
    λ sources pending known. arcs_done s.over.roads (passes (g.A.PathAlgebra.meaning s.over.algebra) s) sources s.level c.loop-road.self.hops c.loop-road.self.parents pending c.loop-road.self.next
    lists.0 c.loop-road.road-index (omega (arith, n)) (c.loop-road.invariant.goes sources pending lists.0 lists.1 lists.2 known)
