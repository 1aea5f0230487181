use Rattle.question_solvers.proofs.Words.{◌∙◌, [], ap, All-nil, All-same, asked_of, IsSearched}
use Rattle.question_solvers.proofs.pairs.search_pairs.Goals.{then-is_err, else-is_err}
use Rattle.question_solvers.proofs.pairs.search_pairs.Goals as goal

pub returns-clause-ahead : goal.returns-clause-ahead
returns-clause-ahead g c =
    let over = c.args.pairs.now.over.now in
    let P = IsSearched (g.A.PathAlgebra.meaning over.task.now.algebra) over.graph.now (asked_of over.task.now.questions.now) in
    let left = c.search_each-searched.new.ahead.items in
    elim c.if-is_err.branch [
      | then-is_err w ↦ All-same P c.if-is_err.ahead.items [] (ap (λ v. v.items) w.ahead-is ∙ w.clear.ensures.items) (All-nil P)
      | else-is_err w ↦ All-same P c.if-is_err.ahead.items left (ap (λ v. v.items) w.ahead-is) c.search_each-searched.ensures.ahead
    ]
