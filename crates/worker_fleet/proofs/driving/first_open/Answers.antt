use Rattle.worker_fleet.proofs.Words.{arith, sym, ◌∙◌, StationHasEnded, StationIsOpen}
use Rattle.std.proofs.lemmas.List.Elements.{AllWithin-more, at_read}
use Rattle.worker_fleet.proofs.driving.first_open.Goals as goal

pub loop-k-preserved : goal.loop-k-preserved
loop-k-preserved g c = AllWithin-more StationHasEnded c.args.stations.now c.args.from c.loop-k.k c.loop-k.invariant
    (at_read c.args.stations.now StationHasEnded c.loop-k.k c.index-stations-k.result (omega arith) c.index-stations-k.is (sym c.ended.ensures.ended ∙ c.if-not-ended.false))

pub returns-clause-none : goal.returns-clause-none
returns-clause-none g c = λ k d low high. c.loop-k.invariant k d low (omega arith)

pub returns-then-not-ended-clause-here : goal.returns-then-not-ended-clause-here
returns-then-not-ended-clause-here g c = at_read c.args.stations.now StationIsOpen c.loop-k.k c.index-stations-k.result (omega arith) c.index-stations-k.is
    (sym c.ended.ensures.ended ∙ c.if-not-ended.true)
