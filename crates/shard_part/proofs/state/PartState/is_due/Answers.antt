use Rattle.shard_part.proofs.Words.{◌∙◌, same_label}
use Rattle.shard_part.proofs.Offers.{due_read}
use Rattle.shard_part.proofs.state.PartState.is_due.Goals as goal

pub returns : goal.returns
returns g c = c.neither.ensures ∙ due_read (g.A.PathAlgebra.meaning c.args.self.now.setup.diffusion.algebra) c.args.self.now c.args.v.vertex
    c.args.b.arc c.is_busy.result c.is_same.result c.requires.tail c.is_busy.ensures
    (c.is_same.ensures ∙ (λ i. same_label (g.A.PathAlgebra.meaning (c.self.view_is i).setup.diffusion.algebra) (c.last_offer.ensures i) (c.label_at.ensures i)))
