use Rattle.shard_part.proofs.Words.{ap, ◌∙◌, place_in}
use Rattle.shard_part.proofs.Moves.{mine_at}
use Rattle.shard_part.proofs.state.PartState.engage_or_answer.Goals as goal

pub signal-requires-clause-made : goal.signal-requires-clause-made
signal-requires-clause-made g c = λ κs w. ap (place_in c.args.self.now.setup) c.requires.head ∙ mine_at c.args.self.now c.args.v.vertex c.args.v.at c.requires.place c.requires.vertex
