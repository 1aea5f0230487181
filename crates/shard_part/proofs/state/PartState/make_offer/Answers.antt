use Rattle.shard_part.proofs.Words.{ap, ◌∙◌, OutRoad, extend_label}
use Rattle.shard_part.proofs.Graphs.{head_told}
use Rattle.shard_part.proofs.Offers.{tail_mine, still_idle, weight_told, shard_told, offer_made}
use Rattle.shard_part.proofs.state.PartState.make_offer.Goals as goal

pub shard_of-to-requires : goal.shard_of-to-requires
shard_of-to-requires g c = (head_told _ c.args.self.now _ _ _ c.args.b.arc c.args.road.head c.self.view_is c.self.invariant c.requires.out.arc
    c.requires.graph (ap (λ (r : OutRoad). r.head) c.requires.road)).1

pub message-requires-clause-shard : goal.message-requires-clause-shard
message-requires-clause-shard g c = λ κs w. shard_told (g.A.PathAlgebra.meaning c.args.self.now.setup.diffusion.algebra) _ c.args.self.now
    c.set_last_offer.new.self _ _ _ c.args.b.arc c.args.road.head c.shard_of-to.result c.label_at-label.result c.self.view_is c.self.invariant c.requires.out.arc
    c.requires.graph (ap (λ (r : OutRoad). r.head) c.requires.road) c.shard_of-to.ensures.shard c.set_last_offer.ensures

pub message-requires-clause-made : goal.message-requires-clause-made
message-requires-clause-made g c = λ κs w. tail_mine (g.A.PathAlgebra.meaning c.args.self.now.setup.diffusion.algebra) c.args.self.now c.set_last_offer.new.self
    c.args.v.vertex c.args.v.at c.args.b.arc c.label_at-label.result c.set_last_offer.ensures c.requires.place c.requires.vertex c.requires.out.tail

pub message-requires-clause-idle : goal.message-requires-clause-idle
message-requires-clause-idle g c = λ κs w. still_idle (g.A.PathAlgebra.meaning c.args.self.now.setup.diffusion.algebra) c.args.self.now c.set_last_offer.new.self
    c.args.v.vertex c.args.b.arc c.label_at-label.result c.set_last_offer.ensures c.requires.due

pub returns : goal.returns
returns g c = offer_made (g.A.PathAlgebra.meaning c.args.self.now.setup.diffusion.algebra) c.args.self.now c.set_last_offer.new.self c.message.new.self
    c.args.v.vertex c.args.b.arc c.args.road.weight c.label_at-label.result c.extended-value.result c.requires.due c.label_at-label.ensures
    (weight_told (g.A.PathAlgebra.meaning c.args.self.now.setup.diffusion.algebra) _ c.args.self.now _ _ _ c.args.b.arc c.args.road.weight
    c.self.view_is c.self.invariant c.requires.out.arc c.requires.graph (ap (λ (r : OutRoad). r.weight) c.requires.road))
    (c.extended-value.ensures ∙ (λ i. extend_label (g.A.PathAlgebra.meaning (c.self.view_is i).setup.diffusion.algebra) c.label_at-label.result c.args.road.weight)) c.set_last_offer.ensures c.message.ensures
