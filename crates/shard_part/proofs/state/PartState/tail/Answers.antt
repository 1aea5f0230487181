use Rattle.shard_part.proofs.Words.{ap, ◌∙◌, network_of}
use Rattle.shard_part.proofs.Graphs.{arc_within}
use Rattle.shard_part.proofs.state.PartState.tail.Goals as goal

pub tail_of-requires : goal.tail_of-requires
tail_of-requires g c = arc_within _ c.args.self.now c.args.a c.self.view_is c.requires

pub returns-clause-tail : goal.returns-clause-tail
returns-clause-tail g c = c.tail_of.ensures.tail ∙ ap (λ u. (network_of u.setup).tail c.args.a) c.self.view_is
