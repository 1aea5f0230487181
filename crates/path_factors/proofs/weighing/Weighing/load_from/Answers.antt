use Rattle.path_factors.proofs.Words.{◌≡◌, ◌-◌, ◌⊎◌, List, ℕ, get_or, sym, subst, ListsRoadsFrom, HasVertex, LeadsOn, IsWorthUnder, place_of, Improves, IsHead, IsJoined, heads_in, FactorState}
use Rattle.path_factors.proofs.Connecting.{same_more}
use Rattle.path_factors.proofs.Loading.{loaded_more, loaded_all, road_inside, road_worth}
use Rattle.path_factors.proofs.Joining.{at, road_joined}
use Rattle.path_factors.proofs.weighing.Weighing.load_from.Goals as goal

pub loop-road-preserved : goal.loop-road-preserved
loop-road-preserved g c =
    let C = g.A.ComposingAlgebra.walks c.args.self.now.algebra in
    let F = c.args.self.now.factor in
    let G = c.loop-road.self.factor in
    let H = c.add.new.self.factor in
    let tail = c.args.tail in
    let road = c.road-item.result in
    let alg = c.loop-road.invariant.same.algebra in
    let marks = c.args.marks.now in
    let improves = subst (λ a. Improves (g.A.ComposingAlgebra.walks a) 0 G H) alg c.add.ensures.improves in
    let leads = subst (λ a. (tail ≡ road.head → ⊥) → LeadsOn (g.A.ComposingAlgebra.walks a) marks G.places H tail road.head ((g.A.ComposingAlgebra.walks a).of_arc road.weight)) alg c.add.ensures.leads in
    record {
      same = same_more c.args.self.now c.loop-road.self c.add.new.self c.loop-road.invariant.same c.add.ensures.same;
      loaded = loaded_more C c.holds.ensures.composes.ordered marks tail c.roads_from-road-items.result.now F G H c.loop-road.road-index road c.loop-road.invariant.loaded
          c.loop-road-test.true c.road-item.is improves c.add.ensures.rest leads;
    }

pub returns-clause-covers : goal.returns-clause-covers
returns-clause-covers g c =
    let items = c.roads_from-road-items.result.now in
    let lists = subst (λ (s : FactorState g.row.A.Denot g.row.A-Walk.Denot). ListsRoadsFrom s.roads c.args.tail items) c.self.view_is c.roads_from-road-items.ensures in
    loaded_all (g.A.ComposingAlgebra.walks c.args.self.now.algebra) c.holds.ensures.composes.ordered c.args.marks.now c.args.self.now.roads c.args.tail items lists
    c.args.self.now.factor c.loop-road.self.factor c.loop-road.road-index c.loop-road.invariant.loaded c.loop-road-test.false

pub add-requires-clause-head : goal.add-requires-clause-head
add-requires-clause-head g c κs within =
    let items = c.roads_from-road-items.result.now in
    let lists = subst (λ (s : FactorState g.row.A.Denot g.row.A-Walk.Denot). ListsRoadsFrom s.roads c.args.tail items) c.self.view_is c.roads_from-road-items.ensures in
    subst (λ r. HasVertex r c.road-item.result.head) (sym c.loop-road.invariant.same.roads)
    (road_inside c.args.self.now.roads c.holds.ensures.roads c.args.tail items lists c.loop-road.road-index c.road-item.result c.loop-road-test.true c.road-item.is)

pub add-requires-clause-worth : goal.add-requires-clause-worth
add-requires-clause-worth g c κs within =
    let A = g.A.PathAlgebra.meaning c.args.self.now.algebra in
    let C = g.A.ComposingAlgebra.walks c.args.self.now.algebra in
    let items = c.roads_from-road-items.result.now in
    let road = c.road-item.result in
    let lists = subst (λ (s : FactorState g.row.A.Denot g.row.A-Walk.Denot). ListsRoadsFrom s.roads c.args.tail items) c.self.view_is c.roads_from-road-items.ensures in
    let G = c.loop-road.self.factor in
    let heads = heads_in c.args.self.now.factor.leaving in
    let places = c.args.self.now.factor.places in λ z at.
    let here : (z ≡ get_or places (c.args.tail - 1) 0) ⊎ (z ≡ get_or places (road.head - 1) 0) =
    subst (λ (p : List ℕ). (z ≡ get_or p (c.args.tail - 1) 0) ⊎ (z ≡ get_or p (road.head - 1) 0)) c.loop-road.invariant.loaded.improves.places at in
    let worth = road_worth A C c.holds.ensures.composes c.args.self.now.roads c.holds.ensures.roads heads places c.args.tail items lists c.loop-road.road-index road
    c.loop-road-test.true c.road-item.is z here in
    let on_heads = subst (λ h. IsWorthUnder A C c.args.self.now.roads h places z c.args.tail road.head (C.of_arc road.weight)) (sym c.loop-road.invariant.same.heads) worth in
    let on_places = subst (λ p. IsWorthUnder A C c.args.self.now.roads (heads_in G.leaving) p z c.args.tail road.head (C.of_arc road.weight))
    (sym c.loop-road.invariant.loaded.improves.places) on_heads in
    let on_roads = subst (λ r. IsWorthUnder A C r (heads_in G.leaving) G.places z c.args.tail road.head (C.of_arc road.weight)) (sym c.loop-road.invariant.same.roads) on_places in
    subst (λ a. IsWorthUnder (g.A.PathAlgebra.meaning a) (g.A.ComposingAlgebra.walks a) c.loop-road.self.roads (heads_in G.leaving) G.places z c.args.tail road.head
    ((g.A.ComposingAlgebra.walks a).of_arc road.weight)) (sym c.loop-road.invariant.same.algebra) on_roads

pub add-requires-clause-joined : goal.add-requires-clause-joined
add-requires-clause-joined g c κs within =
    let F = c.args.self.now.factor in
    let G = c.loop-road.self.factor in
    let tail = c.args.tail in
    let road = c.road-item.result in
    let items = c.roads_from-road-items.result.now in
    let lists = subst (λ (s : FactorState g.row.A.Denot g.row.A-Walk.Denot). ListsRoadsFrom s.roads c.args.tail items) c.self.view_is c.roads_from-road-items.ensures in
    let joined = road_joined (IsHead (heads_in F.leaving)) F.places c.args.self.now.roads tail items lists
    (λ a has from. c.holds.ensures.outline.joined a has) c.loop-road.road-index road c.loop-road-test.true c.road-item.is in
    subst (λ h. IsJoined (IsHead h) (place_of G tail) (place_of G road.head)) (sym c.loop-road.invariant.same.heads)
    (subst (λ (p : List ℕ). IsJoined (IsHead (heads_in F.leaving)) (at p tail) (at p road.head)) (sym c.loop-road.invariant.loaded.improves.places) joined)
