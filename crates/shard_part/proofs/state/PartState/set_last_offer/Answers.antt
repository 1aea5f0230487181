use Rattle.shard_part.proofs.Words.{ap, ArcAt}
use Rattle.shard_part.proofs.Moves.{told_keeps, told_leaves}
use Rattle.shard_part.proofs.state.PartState.set_last_offer.Goals as goal

pub invariant_of-self : goal.invariant_of-self
invariant_of-self g c = rw (c.set_last_offer.ensures, ap (λ (w : ArcAt). w.at) c.b.view_is) (told_keeps _ _ _ _ c.args.b.at c.args.label c.self.invariant)

pub returns : goal.returns
returns g c = rw (c.set_last_offer.ensures, ap (λ (w : ArcAt). w.at) c.b.view_is) (told_leaves _ c.args.self.now _ _ _ c.args.b.arc c.args.b.at c.args.label c.self.view_is c.self.invariant c.requires)
