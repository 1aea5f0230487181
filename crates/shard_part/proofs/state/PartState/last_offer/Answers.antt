use Rattle.shard_part.proofs.Words.{ap, ArcAt}
use Rattle.shard_part.proofs.Moves.{told_read}
use Rattle.shard_part.proofs.state.PartState.last_offer.Goals as goal

pub returns : goal.returns
returns g c = told_read _ c.args.self.now _ _ _ c.args.b.arc c.args.b.at c.last_offer.result c.self.view_is c.self.invariant c.requires (rw (ap (λ (w : ArcAt). w.at) c.b.view_is) at c.last_offer.ensures)
