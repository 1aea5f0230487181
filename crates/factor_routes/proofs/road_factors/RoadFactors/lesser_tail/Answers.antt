use Rattle.factor_routes.proofs.Words.{ℕ, ◌∙◌, Option, ap, lesser}
use Rattle.factor_routes.proofs.road_factors.RoadFactors.lesser_tail.Goals as goal

pub returns-clause-lesser : goal.returns-clause-lesser
returns-clause-lesser g c = λ sources number are best.
    c.lesser.ensures ∙ ap (λ (o : Option (ℕ × ℕ)). lesser c.args.least o) (c.in_ok-tail.ensures.tail sources number are best)
