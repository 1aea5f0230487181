use Rattle.shard_part.proofs.Words.{rules, ap, refl, sym, subst, ◌∙◌, ◌++◌, ◌∷◌, [], length, ◌<◌, eqb-true, eq-eqb, false≢true, line, MaySend}
use Rattle.shard_part.proofs.Rings.{put_here_leaves, put_there_leaves, there_in}
use Rattle.shard_part.proofs.state.PartState.send.Goals as goal

pub push-requires-after_bounds : goal.push-requires-after_bounds
push-requires-after_bounds g c κs within = (put_here_leaves (g.A.PathAlgebra.meaning c.self.inside.algebra) _ c.args.self.now _ _ _ c.args.item c.args.to
    (line (c.self.inside.queue.items ++ c.args.item ∷ []) 0 c.self.inside.queue.room) c.self.view_is c.self.invariant c.requires
    (eqb-true c.args.to c.self.inside.shard (sym c.eq.ensures ∙ c.if-eq.true)) refl refl).0

pub invariant_of-self : goal.invariant_of-self
invariant_of-self g c = (put_here_leaves (g.A.PathAlgebra.meaning c.self.inside.algebra) _ c.args.self.now _ _ _ c.args.item c.args.to c.push.new.self
    c.self.view_is c.self.invariant c.requires
    (eqb-true c.args.to c.self.inside.shard (sym c.eq.ensures ∙ c.if-eq.true)) (ap (λ q. q.items) c.push.ensures) (ap (λ q. q.room) c.push.ensures)).1

pub returns-then-eq : goal.returns-then-eq
returns-then-eq g c = (put_here_leaves (g.A.PathAlgebra.meaning c.self.inside.algebra) _ c.args.self.now _ _ _ c.args.item c.args.to c.push.new.self
    c.self.view_is c.self.invariant c.requires
    (eqb-true c.args.to c.self.inside.shard (sym c.eq.ensures ∙ c.if-eq.true)) (ap (λ q. q.items) c.push.ensures) (ap (λ q. q.room) c.push.ensures)).2

pub index_mut-requires : goal.index_mut-requires
index_mut-requires g c = let l : c.args.to < length c.self.inside.outs.items = there_in (g.A.PathAlgebra.meaning c.self.inside.algebra)
    (λ b. b.items) c.self.inside.outs.items _ c.args.self.now _ _ _ c.args.item c.args.to c.self.view_is c.self.invariant refl c.requires.shard in
    search rules

pub push-requires-else-eq : goal.push-requires-else-eq
push-requires-else-eq g c = (put_there_leaves (g.A.PathAlgebra.meaning c.self.inside.algebra) (λ b. b.items)
    (λ b. b.capacity) c.self.inside.outs.items _ c.args.self.now _ _ c.args.item c.to.inside.0 c.index_mut.result.now c.self.view_is c.self.invariant
    refl (subst (MaySend c.args.self.now c.args.item) (sym c.to.view_is) c.requires)
    (λ q. absurd (false≢true (sym c.if-eq.false ∙ c.eq.ensures ∙ eq-eqb c.args.to c.self.inside.shard (sym c.to.view_is ∙ q))))
    c.index_mut.ensures.value).0

pub invariant_of-self-else-eq : goal.invariant_of-self-else-eq
invariant_of-self-else-eq g c = ((put_there_leaves (g.A.PathAlgebra.meaning c.self.inside.algebra) (λ b. b.items)
    (λ b. b.capacity) c.self.inside.outs.items _ c.args.self.now _ _ c.args.item c.to.inside.0 c.index_mut.result.now c.self.view_is c.self.invariant
    refl (subst (MaySend c.args.self.now c.args.item) (sym c.to.view_is) c.requires)
    (λ q. absurd (false≢true (sym c.if-eq.false ∙ c.eq.ensures ∙ eq-eqb c.args.to c.self.inside.shard (sym c.to.view_is ∙ q))))
    c.index_mut.ensures.value).1 c.push-else-eq.new.self (ap (λ b. b.items) c.push-else-eq.ensures) (ap (λ b. b.capacity) c.push-else-eq.ensures)).0

pub returns-else-eq : goal.returns-else-eq
returns-else-eq g c = ((put_there_leaves (g.A.PathAlgebra.meaning c.self.inside.algebra) (λ b. b.items)
    (λ b. b.capacity) c.self.inside.outs.items _ c.args.self.now _ _ c.args.item c.to.inside.0 c.index_mut.result.now c.self.view_is c.self.invariant
    refl (subst (MaySend c.args.self.now c.args.item) (sym c.to.view_is) c.requires)
    (λ q. absurd (false≢true (sym c.if-eq.false ∙ c.eq.ensures ∙ eq-eqb c.args.to c.self.inside.shard (sym c.to.view_is ∙ q))))
    c.index_mut.ensures.value).1 c.push-else-eq.new.self (ap (λ b. b.items) c.push-else-eq.ensures) (ap (λ b. b.capacity) c.push-else-eq.ensures)).1
