use Rattle.answer_lists.proofs.Words.{◌≡◌, ℕ, ◌∙◌, ap, subst, GraphData, cost_of, CountsFit, Shared}
use Rattle.std.specs.Prelude.{IfErr}
use Rattle.factor_routes.specs.declared.road_factors.Unfactored.TheVariants.{Heavy}
use Rattle.answer_lists.proofs.shared_graph.SharedGraph.factors_by.Goals as goal

pub returns-clause-heavy : goal.returns-clause-heavy
returns-clause-heavy c =
    let here : c.deref.result.now ≡ c.args.self.now.roads = c.deref.ensures ∙ ap (λ (s : Shared). s.roads) (c.self.view_is ∙ c.by_head.ensures.kept) in
    subst (λ (g : GraphData). IfErr c.by_order.result (λ e. e ≡ Heavy → (k : ℕ) → CountsFit g (cost_of c.args.cost) k → ⊥)) here c.by_order.ensures.heavy
