use Rattle.answer_lists.proofs.RouteArcs.{told_else}
use Rattle.answer_lists.proofs.route.answer.Goals as goal

pub returns-in-Err-clause-tells : goal.returns-in-Err-clause-tells
returns-in-Err-clause-tells c =
    let a = c.args in told_else a.chosen a.shared.now.roads a.pair.source a.pair.target c.in-Err.status _ _ _ c.in-Err.ensures.status c.in-Err.ensures.none
