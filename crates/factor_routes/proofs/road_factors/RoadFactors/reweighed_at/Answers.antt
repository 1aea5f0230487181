use Rattle.factor_routes.proofs.Words.{◌≡◌, ◌∙◌, ℕ, ap, arith, sym, subst, GraphData, cost_of, CountsFit, Cost, CountedSums, FactorState}
use Rattle.factor_routes.proofs.road_factors.RoadFactors.reweighed_at.Goals as goal

pub returns-in_default-clause-cause : goal.returns-in_default-clause-cause
returns-in_default-clause-cause c =
    let s = c.self.inside in
    let cost : s.sums.cost ≡ c.args.self.now.algebra.cost =
    sym (ap (λ (a : CountedSums). a.cost) c.self.invariant.0) ∙ ap (λ (f : FactorState CountedSums ℕ). f.algebra.cost) c.self.view_is in
    subst (λ (b : Cost). (k : ℕ) → CountsFit c.args.graph.now (cost_of b) k → ⊥) cost
    (subst (λ (g : GraphData). (k : ℕ) → CountsFit g (cost_of s.sums.cost) k → ⊥) c.requires.same c.in_default.ensures.none)

pub invariant_of-result : goal.invariant_of-result
invariant_of-result c =
    let s = c.self.inside in
    let bits : c.in-Some.sums.bits ≡ s.sums.bits = omega (arith, c.if-sums-self.false) in (
      c.in-Ok.ensures.algebra ∙ c.self.invariant.0,
      subst (λ (b : ℕ). CountsFit c.in-Ok.factors.roads (cost_of s.sums.cost) b) bits
          (subst (λ (g : GraphData). CountsFit g (cost_of s.sums.cost) c.in-Some.sums.bits) (c.requires.same ∙ sym c.in-Ok.ensures.roads) c.in-Some.ensures.fits),
    )
