use Rattle.shard_part.proofs.Words.{ap, ArcAt}
use Rattle.shard_part.proofs.Moves.{busy_read}
use Rattle.shard_part.proofs.state.PartState.is_busy.Goals as goal

pub returns : goal.returns
returns g c = busy_read _ c.args.self.now _ _ _ c.args.b.arc c.args.b.at c.is_busy.result c.self.view_is c.self.invariant c.requires (rw (ap (λ (w : ArcAt). w.at) c.b.view_is) at c.is_busy.ensures)
