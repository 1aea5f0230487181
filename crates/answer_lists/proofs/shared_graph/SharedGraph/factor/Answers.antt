use Rattle.answer_lists.proofs.Words.{◌≡◌, sym, ◌∙◌, ap, length, subst, GraphData, cost_of, CountsFit, Shared}
use Rattle.elimination_order.specs.Bounds.{IsTooDense}
use Rattle.answer_lists.proofs.shared_graph.SharedGraph.factor.Goals as goal

pub returns-in-Err-clause-heavy : goal.returns-in-Err-clause-heavy
returns-in-Err-clause-heavy c =
    let here : c.deref.result.now ≡ c.args.self.now.roads = c.deref.ensures ∙ ap (λ (s : Shared). s.roads) (c.self.view_is ∙ c.by_head.ensures.kept) in
    λ heavy k fits. c.in-Err.ensures.heavy heavy k (subst (λ (g : GraphData). CountsFit g (cost_of c.args.cost) k) (sym here) fits)

pub returns-in-Err-clause-dense : goal.returns-in-Err-clause-dense
returns-in-Err-clause-dense c =
    let here : c.deref.result.now ≡ c.args.self.now.roads = c.deref.ensures ∙ ap (λ (s : Shared). s.roads) (c.self.view_is ∙ c.by_head.ensures.kept) in
    λ counts dense. let (k, fits) = c.in-Err.ensures.dense counts dense in (k, subst (λ (g : GraphData). CountsFit g (cost_of c.args.cost) k) here fits)

pub returns-in-Err-clause-bounds : goal.returns-in-Err-clause-bounds
returns-in-Err-clause-bounds c =
    let here : c.deref.result.now ≡ c.args.self.now.roads = c.deref.ensures ∙ ap (λ (s : Shared). s.roads) (c.self.view_is ∙ c.by_head.ensures.kept) in
    λ counts dense. subst (λ (g : GraphData). IsTooDense g.vertices (length g.arcs) counts) here (c.in-Err.ensures.bounds counts dense)
