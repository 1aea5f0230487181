use Rattle.shard_store.proofs.Words.{length, ap, sym, ◌∙◌, arith, length-range_with_len, listed}
use Rattle.shard_store.proofs.local_vertices.LocalVertices.len.Goals as goal

pub returns-in-Run : goal.returns-in-Run
returns-in-Run c =
    let n = length-range_with_len c.in-Run.first c.in-Run.count in
    let e = ap length (sym c.self.view_is ∙ ap listed c.in-Run.is) in omega (arith, n, e)
