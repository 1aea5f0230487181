use Rattle.station.proofs.Words.{◌≡◌, ◌∙◌, true, false, sym, false≢true, place_in, place_below}
use Rattle.station.proofs.QuietRound.{still_after, still_before, turn_of_shard, turn_reports}
use Rattle.station.proofs.laws.quiet_rounds_are_still.Goals as goal

pub returns-clause-still : goal.returns-clause-still
returns-clause-still g c = λ f budget s end enough P r free round. still_after g.A.PathAlgebra.meaning f budget enough P s end r free round

pub returns-clause-ended : goal.returns-clause-ended
returns-clause-ended g c = λ f budget s end enough P r free round.
    c.still_floors_have_ended.ensures.ended f.setup s P r (still_before g.A.PathAlgebra.meaning f budget enough P s end r free round)

pub returns-clause-reported : goal.returns-clause-reported
returns-clause-reported g c = λ f budget s end enough P r free round t among here.
    turn_reports g.A.PathAlgebra.meaning f budget enough P s end r free round t among (λ v at has. c.still_floors_have_ended.ensures.known f.setup s P r
    (still_before g.A.PathAlgebra.meaning f budget enough P s end r free round) t.id 0 v t.before.part at has here)

pub returns-clause-goes_on : goal.returns-clause-goes_on
returns-clause-goes_on g c = λ f budget s end enough P r free round told.
    let T = turn_of_shard g.A.PathAlgebra.meaning f budget enough P s end r free round (place_in f.setup 0) (place_below f.setup 0 P 0) in
    let known = c.still_floors_have_ended.ensures.known f.setup s P r (still_before g.A.PathAlgebra.meaning f budget enough P s end r free round) T.t.id 0 T.view T.t.before.part T.at T.has T.here in
    false≢true (sym T.unaware ∙ told T.t T.among known)
