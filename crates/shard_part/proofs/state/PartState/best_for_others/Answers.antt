use Rattle.shard_part.proofs.Words.{◌≡◌, ◌∙◌, ap, sym, subst, eq-eqb, not, IfSome, IsOutgoing}
use Rattle.std.proofs.lemmas.Bool.{true≢false}
use Rattle.shard_part.proofs.Ahead.{better_kept, for_another}
use Rattle.shard_part.proofs.state.PartState.best_for_others.Goals.{then-ne, else-ne}
use Rattle.shard_part.proofs.state.PartState.best_for_others.Goals as goal

pub loop-to-preserved : goal.loop-to-preserved
loop-to-preserved g c = let p = c.args.self.now in elim c.if-ne.branch [
  | then-ne w ↦ subst (λ o. IfSome o (λ x. IsOutgoing x p)) (sym (w.best-is ∙ w.better_label-best.ensures))
      (better_kept (λ x. IsOutgoing x p) g.A.PathAlgebra.order c.loop-to.best w.best_outgoing.result c.loop-to.invariant
      (for_another p c.loop-to.to w.best_outgoing.result (λ e. true≢false (w.if-ne.ensures ∙ ap not (eq-eqb c.loop-to.to c.self.inside.shard (e ∙ sym (ap (λ q. q.shard) c.self.view_is))))) w.best_outgoing.ensures))
  | else-ne w ↦ subst (λ o. IfSome o (λ x. IsOutgoing x p)) (sym w.best-is) c.loop-to.invariant
]
