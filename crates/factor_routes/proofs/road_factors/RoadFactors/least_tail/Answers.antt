use Rattle.factor_routes.proofs.Words.{◌≡◌, ℕ, Option, None, ap, sym, ◌∙◌, subst, arith, common_steps, GraphData, HasVertex, ListsRoadsInto, OutRoad, cost_of, IsBestLabel, numbers_of, IsLeastTail}
use Rattle.factor_routes.proofs.Tails.{least_from, least_of_row, least_step, row_tail}
use Rattle.factor_routes.proofs.road_factors.RoadFactors.least_tail.Goals as goal

pub lesser_tail-requires-clause-tail : goal.lesser_tail-requires-clause-tail
lesser_tail-requires-clause-tail g c =
    let G = c.args.self.now.roads in
    let items = c.roads_into-road-items.result.now in
    let road = c.road-item.result in
    let lists = subst (λ (r : GraphData). ListsRoadsInto r c.args.v items) c.requires.by_head c.roads_into-road-items.ensures in
    let tail = row_tail G c.args.v items lists c.loop-road.road-index road c.loop-road-test.true in
    subst (λ (n : ℕ). HasVertex G n) (tail.3 ∙ ap (λ (r : OutRoad). r.head) (sym c.road-item.is)) (c.holds.ensures.roads.ends tail.0 tail.1).0

pub loop-road-preserved : goal.loop-road-preserved
loop-road-preserved g c =
    let f = c.args.self.now in
    let items = c.roads_into-road-items.result.now in
    let road = c.road-item.result in
    let inv = c.loop-road.invariant in
    let lists = subst (λ (r : GraphData). ListsRoadsInto r c.args.v items) c.requires.by_head c.roads_into-road-items.ensures in (
      λ sources are. c.lesser_tail.ensures.kept sources (inv.0 sources are),
      c.in_ok-least.ensures.inside,
      λ sources number are into.
          let tail = row_tail f.roads c.args.v items lists c.loop-road.road-index road c.loop-road-test.true in
          let same = tail.3 ∙ ap (λ (r : OutRoad). r.head) (sym c.road-item.is) in
          let best = subst (λ (n : ℕ). IsBestLabel (numbers_of f) f.roads sources n (number n)) same (into tail.0 tail.1 tail.2) in
          let least = c.in_ok-least.ensures.lesser sources (number road.head) (inv.0 sources are) best in
          least_step (cost_of f.algebra.cost) f.algebra.bits c.args.y number c.loop-road.least c.in_ok-least.least items c.loop-road.road-index road
          c.loop-road-test.true c.road-item.is least ∙ inv.2 sources number are into,
    )

pub returns-clause-least : goal.returns-clause-least
returns-clause-least g c = λ sources number are into.
    let f = c.args.self.now in
    let items = c.roads_into-road-items.result.now in
    let lists = subst (λ (r : GraphData). ListsRoadsInto r c.args.v items) c.requires.by_head c.roads_into-road-items.ensures in
    let whole = c.loop-road.invariant.2 sources number are into in
    let all : c.loop-road.least ≡ least_from (cost_of f.algebra.cost) f.algebra.bits c.args.y number None items = grind (arith, common_steps) in
    subst (λ (o : Option (ℕ × ℕ)). IsLeastTail f.roads (cost_of f.algebra.cost) f.algebra.bits number c.args.v c.args.y o) (sym all)
    (least_of_row f.roads (cost_of f.algebra.cost) f.algebra.bits c.args.y number c.args.v items lists)
