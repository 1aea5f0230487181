use Rattle.question_solvers.proofs.Words.{◌∙◌, sym, subst, GraphData, IsPairFound}
use Rattle.question_solvers.proofs.askers.ask_at.Goals as goal

pub returns-clause-solved : goal.returns-clause-solved
returns-clause-solved g c =
    let factored = c.args.factored.now in
    let pair = c.pair_at-source.result in
    let right = subst (λ (x : GraphData). IsPairFound (g.A.PathAlgebra.meaning factored.over.now.task.now.algebra) x pair.source pair.target c.in_ok-found.found) (sym factored.own ∙ factored.same) c.in_ok-found.ensures.found in
    c.answer_of_pair.ensures _ _ _ c.pair_at-source.ensures.asked right
