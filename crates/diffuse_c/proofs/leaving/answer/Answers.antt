use Rattle.diffuse_c.proofs.Words.{ℕ, List, sym, subst, map, DiffuseArc, AreArcsFrom, arc_out_of}
use Rattle.diffuse_c.proofs.ArcsOut.{arcs_out}
use Rattle.diffuse_c.proofs.leaving.answer.Goals as goal

pub returns-clause-arcs : goal.returns-clause-arcs
returns-clause-arcs c =
    let roads = c.roads_from-roads.result.now in
    let arcs : AreArcsFrom c.args.graph.now c.args.v (map (arc_out_of c.args.v) roads) = arcs_out c.args.graph.now c.args.v roads c.roads_from-roads.ensures in
    λ _. subst (λ (xs : List DiffuseArc). AreArcsFrom c.args.graph.now c.args.v xs) (sym c.write_arcs.ensures.list)
    (subst (λ (k : ℕ). AreArcsFrom c.args.graph.now c.args.v (map (arc_out_of k) roads)) (sym c.v.view_is) arcs)
