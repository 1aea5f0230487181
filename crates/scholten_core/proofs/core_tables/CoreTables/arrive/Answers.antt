use Rattle.scholten_core.proofs.Words.{ap, ◌∙◌, refl, cond, Some, length-set, network_of, improves, engaged_by, answer_to}
use Rattle.scholten_core.proofs.Written.{arrive_leaves, answered_busy}
use Rattle.scholten_core.proofs.Sized.{still_sized, busy_seen, label_place, engager_place}
use Rattle.scholten_core.proofs.core_tables.CoreTables.arrive.Goals as goal

pub invariant_of-self : goal.invariant_of-self
invariant_of-self g c =
    still_sized _ _ _ _ c.args.a _ _ c.self.invariant c.a.view_is (busy_seen _ _ c.args.a c.self.view_is c.requires.busy)
    (answered_busy _ _ c.answer_to-answer.ensures) (length-set _ _ _) (length-set _ _ _) refl

pub returns-clause-state : goal.returns-clause-state
returns-clause-state g c =
    arrive_leaves (g.A.PathAlgebra.meaning c.args.self.now.diffusion.algebra) (network_of c.args.self.now) _ _ c.args.a c.args.v _ _ c.args.value _ _ _
    c.self.view_is c.a.view_is c.v.view_is c.requires.busy
    (label_place _ _ c.args.v c.self.view_is c.self.invariant c.requires.within) (engager_place _ _ c.args.v c.self.view_is c.self.invariant c.requires.within) c.requires.head
    (c.better_of-label.ensures ∙ (λ i. cond ((c.improves-improved.ensures
    ∙ (λ k. improves (g.A.PathAlgebra.meaning (c.self.view_is k).diffusion.algebra) c.args.value (c.label.ensures k))) i) (Some c.args.value)
    (c.label-2.ensures i)))
    (c.engaged_by-engager.ensures ∙ ap (λ o. engaged_by o c.args.a) c.engager.ensures)
    (c.answer_to-answer.ensures ∙ ap answer_to c.engager-2.ensures)
