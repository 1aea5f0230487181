use Rattle.diffuse_c.proofs.Words.{rules, ◌≡◌, ◌∙◌, ap, sym, Some, IsReweighFault, Owner}
use Rattle.diffuse_c.proofs.Refusing.{heavy_of}
use Rattle.diffuse_c.proofs.reweigh.diffuse_graph_reweigh.Goals as goal

pub returns-in-Err-clause-heavy : goal.returns-in-Err-clause-heavy
returns-in-Err-clause-heavy c =
    let is : c.args.handle.now.held.shared ≡ Some c.deref.result.now.shared = c.in-Some.ensures.graph ∙ ap (λ (o : Owner). Some o.shared) (sym c.deref.ensures) in
    let fault : IsReweighFault c.deref.result.now.shared c.args.arcs.now c.in-Err.status = c.in-Err.ensures.fault in
    let heavy = heavy_of c.args.handle.now.held.shared c.deref.result.now.shared c.args.arcs.now c.in-Err.status is fault in
    search (rules, heavy)
