use Rattle.path_factors.proofs.Words.{◌≡◌, ℕ, refl, arith, sym, subst, HasArc, arc_of, place_of, IsHead, IsJoined}
use Rattle.std.specs.Prelude.{IsTrue, false}
use Rattle.path_factors.proofs.Joining.{roads_more, roads_all, road_joined}
use Rattle.path_factors.proofs.Loading.{road_inside}
use Rattle.path_factors.proofs.factors.Factors.has_edges_from.Goals as goal

pub place-to-requires-after_bounds : goal.place-to-requires-after_bounds
place-to-requires-after_bounds g c κs within =
    let inside = road_inside c.args.graph.now c.holds-2.ensures c.args.tail c.roads_from-road-items.result.now c.roads_from-road-items.ensures
    c.loop-road.road-index c.road-item.result c.loop-road-test.true c.road-item.is in
    (inside.0, omega (arith, inside.1, c.requires.count))

pub returns-then-not-is_joined : goal.returns-then-not-is_joined
returns-then-not-is_joined g c = (
  λ (never : IsTrue false). absurd (cc),
  λ all.
      let F = c.args.self.now.factor in
      let Has : ℕ → ℕ → Type 0 = IsHead c.args.self.now.heads in
      let joined = road_joined Has F.places c.args.graph.now c.args.tail c.roads_from-road-items.result.now c.roads_from-road-items.ensures all
      c.loop-road.road-index c.road-item.result c.loop-road-test.true c.road-item.is in
      let here = subst (λ (p : ℕ). IsJoined Has p (place_of F c.road-item.result.head)) (sym c.place-from.ensures.place) joined in
      let both = subst (λ (p : ℕ). IsJoined Has c.place-from.result p) (sym c.place-to.ensures.place) here in
      let yes : IsTrue c.is_joined.result = c.is_joined.ensures.1 both in
      let no = c.if-not-is_joined.true in
      absurd (cc),
)

pub loop-road-preserved : goal.loop-road-preserved
loop-road-preserved g c =
    let F = c.args.self.now.factor in
    let Has : ℕ → ℕ → Type 0 = IsHead c.args.self.now.heads in
    let here = subst (λ (p : ℕ). IsJoined Has c.place-from.result p) c.place-to.ensures.place (c.is_joined.ensures.0 c.if-not-is_joined.false) in
    let joined = subst (λ (p : ℕ). IsJoined Has p (place_of F c.road-item.result.head)) c.place-from.ensures.place here in
    roads_more Has F.places c.args.tail c.roads_from-road-items.result.now c.loop-road.road-index c.road-item.result c.loop-road.invariant
    c.loop-road-test.true c.road-item.is joined

pub returns : goal.returns
returns g c =
    let F = c.args.self.now.factor in
    let Has : ℕ → ℕ → Type 0 = IsHead c.args.self.now.heads in
    let all : (a : ℕ) → HasArc c.args.graph.now a → (arc_of c.args.graph.now a).tail ≡ c.args.tail →
    IsJoined Has (place_of F (arc_of c.args.graph.now a).tail) (place_of F (arc_of c.args.graph.now a).head) =
    roads_all Has F.places c.args.graph.now c.args.tail c.roads_from-road-items.result.now c.roads_from-road-items.ensures
    c.loop-road.road-index c.loop-road.invariant c.loop-road-test.false in
    (λ yes. all, λ known. refl)
