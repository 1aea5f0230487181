use Rattle.path_factors.proofs.Words.{◌≡◌, ℕ, ◌-◌, ◌∙◌, length, get_or, ap, subst, arith, HasValue, IsMore, IsJoined}
use Rattle.path_factors.proofs.Joining.{at, AreRoadsJoined, joined_weaker, roads_more, roads_all}
use Rattle.path_factors.proofs.Listing.{more_none, more_trans}
use Rattle.path_factors.proofs.Loading.{road_inside}
use Rattle.path_factors.proofs.upward.join_roads.Goals as goal

pub loop-road-init : goal.loop-road-init
loop-road-init c = record {
  more = more_none c.args.graph.now.vertices c.args.arcs.now;
  joined = λ r i low is. absurd (omega (arith, low));
}

pub overflow_sub-road-inside : goal.overflow_sub-road-inside
overflow_sub-road-inside c =
    let inside = road_inside c.args.graph.now c.holds.ensures c.args.tail c.roads_from-road-items.result.now c.roads_from-road-items.ensures
    c.loop-road.road-index c.road-item.result c.loop-road-test.true c.road-item.is in
    let e : c.road.inside.0.0.0 ≡ c.road-item.result.head = λ i. (c.road.view_is i).head in
    omega (arith, inside.0, e)

pub bounds-places-road-inside : goal.bounds-places-road-inside
bounds-places-road-inside c =
    let inside = road_inside c.args.graph.now c.holds.ensures c.args.tail c.roads_from-road-items.result.now c.roads_from-road-items.ensures
    c.loop-road.road-index c.road-item.result c.loop-road-test.true c.road-item.is in
    let e : c.road.inside.0.0.0 ≡ c.road-item.result.head = λ i. (c.road.view_is i).head in
    omega (arith, inside.0, inside.1, e, c.requires.places.1.places_count)

pub join-requires-clause-first : goal.join-requires-clause-first
join-requires-clause-first c =
    omega (arith, (c.requires.places.1.place c.args.tail c.requires.tail).0, c.loop-road.invariant.more.lists, c.requires.lists)

pub join-requires-clause-second : goal.join-requires-clause-second
join-requires-clause-second c =
    let inside = road_inside c.args.graph.now c.holds.ensures c.args.tail c.roads_from-road-items.result.now c.roads_from-road-items.ensures
    c.loop-road.road-index c.road-item.result c.loop-road-test.true c.road-item.is in
    let e : c.road.inside.0.0.0 ≡ c.road-item.result.head = λ i. (c.road.view_is i).head in
    let same = ap (λ (k : ℕ). get_or c.args.places.now (k - 1) 0) e in
    omega (arith, (c.requires.places.1.place c.road-item.result.head inside).0, same, c.loop-road.invariant.more.lists, c.requires.lists)

pub loop-road-preserved : goal.loop-road-preserved
loop-road-preserved c =
    let n = c.args.graph.now.vertices in
    let places = c.args.places.now in
    let tail = c.args.tail in
    let roads = c.roads_from-road-items.result.now in
    let j = c.loop-road.road-index in
    let before = c.loop-road.arcs in
    let after = c.join.new.arcs in
    let inv = c.loop-road.invariant in
    let size : length before.firsts ≡ n = inv.more.lists ∙ c.requires.lists in
    let more = subst (λ (k : ℕ). IsMore k before after) size c.in_ok-join.ensures.more in
    let old : AreRoadsJoined (HasValue after) places tail roads j = λ r i low is. joined_weaker (HasValue before) (HasValue after) more.kept (at places tail) (at places r.head) (inv.joined r i low is) in
    let e : c.road.inside.0.0.0 ≡ c.road-item.result.head = λ i. (c.road.view_is i).head in
    let from : c.tail.inside.0 ≡ tail = c.tail.view_is in
    let there = subst (λ (k : ℕ). IsJoined (HasValue after) (get_or places (c.tail.inside.0 - 1) 0) (get_or places (k - 1) 0)) e c.in_ok-join.ensures.joined in
    let joined = subst (λ (k : ℕ). IsJoined (HasValue after) (get_or places (k - 1) 0) (at places c.road-item.result.head)) from there in
    record {
      more = more_trans n c.args.arcs.now before after inv.more more;
      joined = roads_more (HasValue after) places tail roads j c.road-item.result old c.loop-road-test.true c.road-item.is joined;
    }

pub returns-clause-joined : goal.returns-clause-joined
returns-clause-joined c =
    roads_all (HasValue c.loop-road.arcs) c.args.places.now c.args.graph.now c.args.tail c.roads_from-road-items.result.now c.roads_from-road-items.ensures
    c.loop-road.road-index c.loop-road.invariant.joined c.loop-road-test.false

pub returns-clause-more : goal.returns-clause-more
returns-clause-more c = c.loop-road.invariant.more
