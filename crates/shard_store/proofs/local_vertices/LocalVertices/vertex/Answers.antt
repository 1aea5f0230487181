use Rattle.shard_store.proofs.Words.{◌≡◌, ◌<◌, List, ℕ, ◌∷◌, length, get_or, ap, sym, ◌∙◌, subst, arith, range_with_len, length-range_with_len, listed, ArePlacesInRange}
use Rattle.shard_store.proofs.Increasing.{run_read}
use Rattle.shard_store.proofs.local_vertices.LocalVertices.vertex.Goals as goal

pub vertex_in_run-requires : goal.vertex_in_run-requires
vertex_in_run-requires c =
    let n = length-range_with_len c.in-Run.first c.in-Run.count in
    let e = ap length (sym c.self.view_is ∙ ap listed c.in-Run.is) in
    let w = (subst ArePlacesInRange c.in-Run.is c.self.invariant).1 in let l = c.requires in omega (arith, n, e, w, l)

pub returns-in-Run : goal.returns-in-Run
returns-in-Run c =
    let e : c.args.self.now ≡ 0 ∷ range_with_len c.in-Run.first c.in-Run.count = sym c.self.view_is ∙ ap listed c.in-Run.is in
    run_read c.in-Run.first c.in-Run.count c.args.j c.vertex_in_run.result (subst (λ (xs : List ℕ). c.args.j < length xs) e c.requires)
    c.vertex_in_run.ensures.environment c.vertex_in_run.ensures.behind
    ∙ ap (λ (xs : List ℕ). get_or xs c.args.j 0) (sym e)
