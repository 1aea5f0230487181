use Rattle.factor_routes.proofs.Words.{◌≡◌, ℕ, ◌+◌, List, [], ◌∷◌, ◌++◌, Option, refl, sym, ◌∙◌, subst, arith, common_steps, arc_of, AreBestInto, cost_of, counted_cost, counted_laws, IsBest, IsBestLabel, label_of, best_is_one, AreBestNumbers, numbers_of}
use Rattle.factor_routes.proofs.Climbing.{Climbed, best_into, climb, climbed}
use Rattle.factor_routes.proofs.road_factors.RoadFactors.route_back.Goals as goal

pub loop-number-init : goal.loop-number-init
loop-number-init c =
    let f = c.args.self.now in
    let cost = cost_of f.algebra.cost in
    let k = f.algebra.bits in
    let pushed : c.push.new.self.items ≡ c.args.end.0 ∷ [] = grind (arith, common_steps) in (
      c.requires.end,
      c.requires.same,
      refl,
      c.requires.number,
      λ n best.
          let same = best_is_one (numbers_of f) (counted_laws cost k) f.roads c.holds.ensures.roads c.args.asker.now.sources c.args.end.0
          c.args.end.1 n c.requires.number best in
          omega (arith, same),
      λ number best e.
          let start : Climbed f.roads cost k number c.args.end.0 c.args.end.0 c.args.end.1 (c.args.end.0 ∷ []) =
          record { at_number = e; rest = []; is = refl; chain = refl } in
          rw pushed start,
    )

pub tail_before-requires-clause-after : goal.tail_before-requires-clause-after
tail_before-requires-clause-after c = λ n best.
    let f = c.args.self.now in
    let inv = c.loop-number.invariant in
    inv.4 n (subst (λ (s : List ℕ). IsBest (numbers_of f) f.roads s c.loop-number.after n) inv.2 best)

pub loop-number-preserved : goal.loop-number-preserved
loop-number-preserved c =
    let f = c.args.self.now in
    let A = numbers_of f in
    let G = f.roads in
    let roads = c.holds.ensures.roads in
    let cost = cost_of f.algebra.cost in
    let k = f.algebra.bits in
    let sources = c.args.asker.now.sources in
    let inv = c.loop-number.invariant in
    let at = c.loop-number.at in
    let items = c.loop-number.list.items in
    let tail = c.in_ok-tail.tail in
    let inside = c.in_ok-tail.ensures.inside in
    let pushed : c.push-in-loop-number.new.self.items ≡ items ++ (tail.0 ∷ []) = grind (arith, common_steps) in
    let least = λ (number : ℕ → Option ℕ) (best : AreBestNumbers A G sources number).
    c.in_ok-tail.ensures.least number (subst (λ (s : List ℕ). AreBestInto A G s number at) (sym inv.2) (best_into G roads cost k sources number best at)) in
    let numbers = c.numbers_exist.ensures sources c.requires.sources in
    let each : AreBestNumbers A G sources (label_of numbers.0) = λ v in_v. numbers.1.best v in_v in (
      inside.0,
      c.tail_before.ensures.same ∙ inv.1,
      c.tail_before.ensures.sources ∙ inv.2,
      subst (IsBestLabel A G sources tail.0) (least (label_of numbers.0) each).0 (each tail.0 inside.0),
      λ n best.
          omega (arith, best_is_one A (counted_laws cost k) G roads sources at c.loop-number.number n inv.3 best, inside.1),
      λ number best e. rw pushed (climb G cost k number c.args.end.0 at c.loop-number.number items (inv.5 number best e) tail (least number best)),
    )

pub returns-clause-route : goal.returns-clause-route
returns-clause-route c = λ number best e.
    let f = c.args.self.now in
    let cost = cost_of f.algebra.cost in
    let k = f.algebra.bits in
    rw c.reverse.ensures.items (climbed f.roads cost k number c.args.end.0 c.loop-number.at c.loop-number.number c.loop-number.list.items
    (c.loop-number.invariant.5 number best e)
    (λ u s. let sum : s.0 + counted_cost cost k (arc_of f.roads s.2.0).weight ≡ c.loop-number.number = s.2.4 in omega (arith, sum, c.loop-number-test.false)))
