use Rattle.std.proofs.Common.{◌≡◌, ℕ, List, IfOk, subst, Option, Result, Ok, Err}
use Rattle.factor_routes.proofs.Words.{GraphData, Algebra, IsBestLabel, numbers_of}
use Rattle.road_graph.specs.declared.Memory.{Memory}
use Rattle.factor_routes.proofs.numbers.AskerCountedSumsBestNumbers.number.Goals as goal

from_these : (A : Algebra ℕ) (g : GraphData) (these : List ℕ) (v : ℕ) (X : Type 0) (r : Result (Option ℕ) Memory) →
    IfOk r (λ l. IsBestLabel A g these v l) → IfOk r (λ l. (sources : List ℕ) → X × (these ≡ sources) → IsBestLabel A g sources v l)
from_these A g these v X (Ok l) h = λ sources are. subst (λ (s : List ℕ). IsBestLabel A g s v l) are.1 h
from_these A g these v X (Err e) h = h

pub returns-clause-best : goal.returns-clause-best
returns-clause-best c =
    let f = c.args.factors.now in
    from_these (numbers_of f) f.roads c.args.self.now.sources c.args.v (c.args.self.now.factors ≡ f) c.label.result c.label.ensures.best
