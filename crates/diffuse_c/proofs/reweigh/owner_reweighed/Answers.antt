use Rattle.diffuse_c.proofs.Words.{rules, ◌≡◌, ◌∙◌, ℕ, ap, subst, GraphData, IsRefusal, Fits, lent}
use Rattle.diffuse_c.proofs.Refusing.{not_factored}
use Rattle.diffuse_c.proofs.reweigh.owner_reweighed.Goals as goal

pub returns-in-Err-clause-fault : goal.returns-in-Err-clause-fault
returns-in-Err-clause-fault c =
    let first = c.args.first.now in
    let arcs = c.args.arcs.now in
    let n : c.vertices.result ≡ first.roads.vertices = c.vertices.ensures.count ∙ ap (λ (h : GraphData). h.vertices) c.graph.ensures in
    let fits : Fits first.roads.vertices arcs = subst (λ (k : ℕ). Fits k arcs) n c.in_ok-graph.ensures.fits in
    let is : c.in_ok-graph.graph ≡ lent first.roads.vertices arcs = c.in_ok-graph.ensures.graph ∙ ap (λ (k : ℕ). lent k arcs) n in
    let fault = not_factored first arcs _ fits (subst (λ (h : GraphData). IsRefusal h first c.in-Err.status) is c.in-Err.ensures.refusal) in
    search (rules, fault)
