use Rattle.shard_part.proofs.Words.{ap, ◌∙◌, network_of}
use Rattle.shard_part.proofs.Graphs.{arc_within}
use Rattle.shard_part.proofs.state.PartState.head.Goals as goal

pub head_of-requires-clause-arc : goal.head_of-requires-clause-arc
head_of-requires-clause-arc g c = arc_within _ c.args.self.now c.args.a c.self.view_is c.requires

pub returns-clause-head : goal.returns-clause-head
returns-clause-head g c = c.head_of.ensures.head ∙ ap (λ u. (network_of u.setup).head c.args.a) c.self.view_is
