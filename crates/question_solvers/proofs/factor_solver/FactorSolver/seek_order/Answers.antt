use Rattle.question_solvers.proofs.Words.{◌≡◌, ℕ, length, cost_of, CountsFit, Heavy}
use Rattle.question_solvers.proofs.FactorCosts.{recorded}
use Rattle.question_solvers.proofs.factor_solver.FactorSolver.seek_order.Goals as goal

pub invariant_of-self-clause-each : goal.invariant_of-self-clause-each
invariant_of-self-clause-each g c = recorded (λ o. length o.vertices.items ≡ c.args.self.now.plain.graph.vertices) c.in-Ok.order c.in-Ok.ensures.each

pub invariant_of-self-in-Err-Heavy-clause-heavy : goal.invariant_of-self-in-Err-Heavy-clause-heavy
invariant_of-self-in-Err-Heavy-clause-heavy g c =
    recorded (λ r. r.1 ≡ Heavy → (k : ℕ) → CountsFit c.args.self.now.plain.graph (cost_of r.0) k → ⊥) (c.args.cost, Heavy)
    (λ is k fits. c.in-Err-Heavy.ensures.heavy c.in-Err-Heavy.field-0-is k fits)
