use Rattle.scholten_core.proofs.Words.{◌∙◌, sym, refl, arith, network_of, state_of, extend_label}
use Rattle.scholten_core.proofs.Written.{offer_leaves, refuse_leaves, not_due_leaves}
use Rattle.scholten_core.proofs.Sized.{sent_sized, counter_most, vertex_seen, arc_seen, idle_seen, tail_of_seen, token_place, told_place}
use Rattle.scholten_core.proofs.core_tables.CoreTables.offer.Goals as goal
use Rattle.scholten_core.proofs.Basics.{due_idle}

pub overflow_add-index_mut : goal.overflow_add-index_mut
overflow_add-index_mut g c =
    let small = counter_most _ c.args.v _ _ c.self.invariant c.v.view_is (vertex_seen _ _ c.args.v c.self.view_is c.requires.within) c.index_mut-in-Some-2.ensures.value in
    omega (arith, small)

pub invariant_of-self : goal.invariant_of-self
invariant_of-self g c =
    let d = due_idle (g.A.PathAlgebra.meaning c.args.self.now.diffusion.algebra) (network_of c.args.self.now) c.args.v (state_of c.args.self.now) c.args.b (sym c.is_due.ensures ∙ c.if-is_due.true) in
    sent_sized _ c.args.b _ _ c.args.v _ _ _ _ _ c.self.invariant c.b.view_is c.v.view_is (tail_of_seen _ _ c.args.b c.args.v c.self.view_is c.requires.tail)
    (vertex_seen _ _ c.args.v c.self.view_is c.requires.within) (arc_seen _ _ c.args.b c.self.view_is c.requires.high) (idle_seen _ _ c.args.b c.self.view_is d) refl
    c.index_mut-in-Some-2.ensures.value refl

pub returns-in-Some-clause-state : goal.returns-in-Some-clause-state
returns-in-Some-clause-state g c =
    offer_leaves (g.A.PathAlgebra.meaning c.args.self.now.diffusion.algebra) (network_of c.args.self.now) _ _ c.args.v c.args.b _ _ _ c.in-Some.value c.self.view_is c.b.view_is c.b.view_is
    (token_place _ _ c.args.b c.self.view_is c.self.invariant c.requires.high) (told_place _ _ c.args.b c.self.view_is c.self.invariant c.requires.high)
    (sym c.is_due.ensures ∙ c.if-is_due.true) c.label-label.ensures
    (c.in-Some.ensures ∙ (λ i. extend_label (g.A.PathAlgebra.meaning (c.self.view_is i).diffusion.algebra) ((c.label.ensures ∙ sym c.label-label.ensures) i) (c.weight.ensures i)))

pub returns-in_default-clause-state : goal.returns-in_default-clause-state
returns-in_default-clause-state g c =
    refuse_leaves (g.A.PathAlgebra.meaning c.args.self.now.diffusion.algebra) (network_of c.args.self.now) _ _ c.args.v c.args.b _ _ c.self.view_is c.b.view_is
    (told_place _ _ c.args.b c.self.view_is c.self.invariant c.requires.high)
    (sym c.is_due.ensures ∙ c.if-is_due.true)
    (due_idle (g.A.PathAlgebra.meaning c.args.self.now.diffusion.algebra) (network_of c.args.self.now) c.args.v (state_of c.args.self.now) c.args.b (sym c.is_due.ensures ∙ c.if-is_due.true))
    c.label-label.ensures
    (c.in_default.ensures ∙ (λ i. extend_label (g.A.PathAlgebra.meaning (c.self.view_is i).diffusion.algebra) ((c.label.ensures ∙ sym c.label-label.ensures) i) (c.weight.ensures i)))

pub returns-else-is_due-clause-state : goal.returns-else-is_due-clause-state
returns-else-is_due-clause-state g c =
    not_due_leaves (g.A.PathAlgebra.meaning c.args.self.now.diffusion.algebra) (network_of c.args.self.now) (state_of c.args.self.now) c.args.v c.args.b (sym c.is_due.ensures ∙ c.if-is_due.false)
