use Rattle.question_solvers.proofs.Words.{◌≡◌, ◌∙◌, ℕ, Some, ap, sym, cost_of, CountsFit, Heavy}
use Rattle.std.specs.Option.{option_map}
use Rattle.question_solvers.proofs.FactorCosts.{recorded}
use Rattle.question_solvers.proofs.factor_solver.FactorSolver.factor.Goals as goal

pub invariant_of-self-in-Err-Heavy-clause-heavy : goal.invariant_of-self-in-Err-Heavy-clause-heavy
invariant_of-self-in-Err-Heavy-clause-heavy g c =
    recorded (λ r. r.1 ≡ Heavy → (k : ℕ) → CountsFit c.seek_order.new.self.plain.graph (cost_of r.0) k → ⊥) (c.args.cost, Heavy)
    (λ is k fits. c.in-Err-Heavy.ensures.heavy c.in-Err-Heavy.field-0-is k fits)

pub by_order-requires-clause-order : goal.by_order-requires-clause-order
by_order-requires-clause-order g c = c.seek_order.new.self.each _ c.in-Some-Some.is-1

pub invariant_of-self-in-Ok-clause-ordered : goal.invariant_of-self-in-Ok-clause-ordered
invariant_of-self-in-Ok-clause-ordered g c =
    recorded (λ f. option_map (λ o. o.vertices.items) c.seek_order.new.self.order ≡ Some f.factors.factor.order) c.in_ok-factored-in-Ok.factored
    (ap (option_map (λ o. o.vertices.items)) c.in-Some-Some.is-1 ∙ ap Some (sym (ap (λ f. f.factor.order) c.in_ok-factored-in-Ok.ensures ∙ c.in-Ok.ensures.order)))
