use Rattle.factor_routes.proofs.Words.{◌≡◌, ℕ, List, Option, sym, ◌∙◌, ap, subst, cost_of, counted, AreBest, CountedSums, FactorState, Branches, IsTree}
use Rattle.factor_routes.proofs.Tails.{step_into}
use Rattle.factor_routes.proofs.road_factors.RoadFactors.steps_exist.Goals as goal

pub returns : goal.returns
returns c = λ sources inside v y number in_v best some into.
    let f = c.args.self.now in
    let roads = c.holds.ensures.roads in
    let same : c.self.inside.sums ≡ f.algebra = sym c.self.invariant.0 ∙ ap (λ (s : FactorState CountedSums ℕ). s.algebra) c.self.view_is in
    let numbers = c.numbers_exist.ensures sources inside in
    let trees =
    subst
    (λ (s : CountedSums). (labels : List (Option ℕ)) → AreBest (counted (cost_of s.cost) s.bits) f.roads sources labels →
    (t : Branches) × IsTree (counted (cost_of s.cost) s.bits) f.roads sources t)
    same (λ labels are. let t = c.trees_exist.ensures f.roads roads sources inside labels are in (t.0, t.1)) in
    let tree = trees numbers.0 numbers.1 in
    step_into f.roads roads (cost_of f.algebra.cost) f.algebra.bits sources v y number tree.0 tree.1 in_v best some into
