use Rattle.question_solvers.proofs.Words.{◌<◌, length, sym, subst, asked_of}
use Rattle.std.specs.List.{All}
use Rattle.question_solvers.proofs.Searches.{all_own}
use Rattle.question_solvers.proofs.side_by_side.search_ahead.Goals as goal

pub returns : goal.returns
returns g c =
    let asked = asked_of c.args.over.now.task.now.questions.now in
    let inside = subst (All (λ k. k < length asked.questions)) (sym c.as_slice.ensures.value) c.in_ok-places.ensures.inside in
    record { ahead = c.add_chunk.ensures _ _ _ c.requires.ahead (all_own _ _ asked c.as_slice.result.now c.in_ok-group.group.items inside c.in_ok-group.ensures) }
