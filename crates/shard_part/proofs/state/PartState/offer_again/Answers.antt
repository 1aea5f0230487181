use Rattle.shard_part.proofs.Words.{ap, ◌∙◌, arc_of, road_of}
use Rattle.shard_part.proofs.state.PartState.offer_again.Goals as goal

pub make_offer-requires-clause-road : goal.make_offer-requires-clause-road
make_offer-requires-clause-road g c = λ κs w. c.road_at-road.ensures ∙ ap (λ b. road_of (arc_of c.args.self.now.setup.diffusion.roads b)) c.requires.turn
