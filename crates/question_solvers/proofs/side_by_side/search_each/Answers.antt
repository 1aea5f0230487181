use Rattle.question_solvers.proofs.Words.{◌∙◌, ap, IfOk, IsFoundIn}
use Rattle.rayon.proofs.ToStd.{slice-AllZip}
use Rattle.question_solvers.proofs.Searches.{gathered}
use Rattle.question_solvers.proofs.side_by_side.search_each.Goals as goal

pub returns : goal.returns
returns g c =
    let at = IsFoundIn g.A.PathAlgebra.meaning c.args.over.now in
    let done = c.in_ok-searched.ensures in
    let chain = done.1 in
    let slice = ap (λ it. it.base.slice.now) c.map.ensures.base ∙ ap (λ it. it.slice.now) c.with_min_len.ensures.base ∙ c.par_iter.ensures in
    let ran = rw c.map.ensures.f at chain.2 in
    let each = slice-AllZip chain.0 c.args.places.now (chain.1 ∙ slice) (λ k r. IfOk r (at k)) done.0 ran in
    gathered at c.args.places.now done.0 c.in_ok-searched.searched each done.2
