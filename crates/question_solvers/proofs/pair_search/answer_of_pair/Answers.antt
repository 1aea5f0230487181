use Rattle.std.proofs.Common.{refl}
use Rattle.question_solvers.proofs.QuestionKinds.{found_answers}
use Rattle.question_solvers.proofs.pair_search.answer_of_pair.Goals as goal

pub returns : goal.returns
returns g c = λ A roads asked is right. record { place = refl; solved = λ d. found_answers _ _ _ _ c.args.found _ (is d) right }
