use Rattle.post_floor.specs.Boxes.{box_count}
use Rattle.station.proofs.Over.{is_over}
use Rattle.station.proofs.Stepping.{look_ended}
use Rattle.station.proofs.turn.look_for_end.Goals as goal

pub returns-then-ended-clause-over : goal.returns-then-ended-clause-over
returns-then-ended-clause-over g c =
    let laws = g.met.A.PathAlgebra g.world.𝓛 g.world.𝓜 g.world.𝓡 ((λ s x. x), (λ x. x), (λ x. x), λ x. x) in
    λ e. is_over g.A.PathAlgebra.meaning c.args.part.now _ (laws.lawful c.args.part.now.setup.diffusion.algebra) c.part_holds.ensures.planned c.announce.ensures.told.1

pub returns-clause-over : goal.returns-clause-over
returns-clause-over g c =
    let laws = g.met.A.PathAlgebra g.world.𝓛 g.world.𝓜 g.world.𝓡 ((λ s x. x), (λ x. x), (λ x. x), λ x. x) in
    λ e. is_over g.A.PathAlgebra.meaning c.args.part.now _ (laws.lawful c.args.part.now.setup.diffusion.algebra) c.part_holds.ensures.planned
    (look_ended g.A.PathAlgebra.meaning c.look.result c.args.part.now (box_count c.args.floor.now.setup.plan.shards) c.args.seat.now.knows c.look.new.seat.knows c.look.ensures.told e)
