use Rattle.question_solvers.proofs.Words.{subst, IfOk, AreFoundIn}
use Rattle.rayon.proofs.ListFacts.{AllZip-weaken}
use Rattle.question_solvers.proofs.Searches.{gathered_all}
use Rattle.question_solvers.proofs.askers.ask_chunks.Goals as goal

pub returns : goal.returns
returns g c =
    let meaning = g.A.PathAlgebra.meaning in
    let over = c.args.factored.now.over.now in
    let done = c.in_ok-chunks.ensures in
    let chain = done.1 in
    let each = AllZip-weaken _ (λ start r. IfOk r (λ chunk. AreFoundIn meaning over chunk.items))
    (λ start r found. subst (λ f. IfOk r (λ chunk. AreFoundIn meaning f.0.now.over.now chunk.items)) c.map.ensures.f found) chain.0 done.0 chain.2 in
    gathered_all (λ chunk. AreFoundIn meaning over chunk.items) chain.0 done.0 c.in_ok-chunks.chunks each done.2
