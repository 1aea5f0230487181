use Rattle.answer_lists.specs.Near.{HasReached}
use Rattle.answer_lists.proofs.NearListed.{done_is, found_listed}
use Rattle.answer_lists.proofs.near.search.Goals as goal

pub returns-in-Ok-Some-clause-lists : goal.returns-in-Ok-Some-clause-lists
returns-in-Ok-Some-clause-lists g c =
    let a = c.args in let A = g.A.PathAlgebra.meaning a.searchers.now.algebra in let t = c.in-Ok-Some.found in let written = c.write_lists-status.ensures in
    let reached : HasReached A a.graph.now a.sources.now t = rw c.in-Ok-Some.field-0-is at c.in-Ok-Some.ensures.found in
    λ status. let done = done_is c.write_lists-status.result written.found status in
    found_listed A a.graph.now a.sources.now t reached _ written.count _ _ _ _ (written.vertices done) (written.codes done) (written.hops done) (written.parents done)
