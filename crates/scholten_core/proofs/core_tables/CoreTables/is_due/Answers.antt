use Rattle.scholten_core.proofs.Words.{ap, ◌∙◌, sym, network_of, state_of, same_label, is_idle}
use Rattle.scholten_core.proofs.Written.{due_then, due_else}
use Rattle.scholten_core.proofs.core_tables.CoreTables.is_due.Goals as goal

pub returns-then-is_idle : goal.returns-then-is_idle
returns-then-is_idle g c =
    due_then (g.A.PathAlgebra.meaning c.args.self.now.diffusion.algebra) (network_of c.args.self.now) (state_of c.args.self.now) c.args.v c.args.b c.is_same.result c.requires.tail
    (ap is_idle (sym c.token.ensures) ∙ sym c.is_idle.ensures ∙ c.if-is_idle.true)
    (c.is_same.ensures ∙ (λ i. same_label (g.A.PathAlgebra.meaning (c.self.view_is i).diffusion.algebra) (c.last_offer.ensures i) (c.label.ensures i)))

pub returns-else-is_idle : goal.returns-else-is_idle
returns-else-is_idle g c =
    c.if-is_idle.false ∙ due_else (g.A.PathAlgebra.meaning c.args.self.now.diffusion.algebra) (network_of c.args.self.now) (state_of c.args.self.now) c.args.v c.args.b c.requires.tail
    (ap is_idle (sym c.token.ensures) ∙ sym c.is_idle.ensures ∙ c.if-is_idle.false)
