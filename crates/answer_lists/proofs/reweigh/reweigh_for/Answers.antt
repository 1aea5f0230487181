use Rattle.answer_lists.proofs.Words.{rules, ◌≡◌, ◌∙◌, ℕ, ap, inl, inr, refl, subst, true, pos, GraphData, cost_of, CountsFit, Cost, Shared, is_factored}
use Rattle.path_factors.specs.Reweighing.{JoinsNoOthers}
use Rattle.factor_routes.specs.Reweighing.{IsCause}
use Rattle.factor_routes.specs.declared.reweighed.Unweighed.{Unweighed}
use Rattle.answer_lists.proofs.reweigh.reweigh_for.Goals as goal

pub returns-in-Err-Heavy-clause-refusal : goal.returns-in-Err-Heavy-clause-refusal
returns-in-Err-Heavy-clause-refusal c =
    let f = c.in-Some.factored.now in
    let here : c.graph.result.now ≡ c.args.second.now.roads = c.graph.ensures ∙ ap (λ (s : Shared). s.roads) c.by_head.ensures.kept in
    let cause = subst (λ (why : Unweighed). IsCause why c.graph.result.now f) c.in-Err-Heavy.field-0-is c.in-Err-Heavy.ensures.cause in
    let of_cost = subst (λ (cost : Cost). (k : ℕ) → CountsFit c.graph.result.now (cost_of cost) k → ⊥) c.in-Some.ensures.cost cause in
    let none = subst (λ (g : GraphData). (k : ℕ) → CountsFit g (cost_of c.args.cost) k → ⊥) here of_cost in
    let link : pos 8 ≡ pos 44 → JoinsNoOthers c.args.second.now.roads c.args.first.now.roads → ⊥ = search rules in
    let is : is_factored c.args.first.now c.args.cost ≡ true = search rules in
    record {
      one_of = inr (inl refl);
      heavy = λ _. (c.args.cost, is, none);
      link = link;
    }
