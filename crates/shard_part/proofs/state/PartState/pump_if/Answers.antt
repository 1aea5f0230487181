use Rattle.shard_part.proofs.Words.{[], refl, sym, subst, cond-false, IsFit, Owes}
use Rattle.shard_part.proofs.ItemIsTaken.{stored_fit}
use Rattle.shard_part.proofs.RepayingOffers.{owes_none}
use Rattle.shard_part.proofs.state.PartState.pump_if.Goals as goal

pub returns-else-improved-clause-owes : goal.returns-else-improved-clause-owes
returns-else-improved-clause-owes g c =
    let laws = g.met.A.PathAlgebra g.world.𝓛 g.world.𝓜 g.world.𝓡 ((λ s x. x), (λ x. x), (λ x. x), λ x. x) in
    let p = c.args.self.now in let A = g.A.PathAlgebra.meaning p.setup.diffusion.algebra in let v = c.args.v.vertex in
    ([], refl, subst (λ u. Owes A v [] u p) (sym (cond-false _ _ _ c.if-improved.false)) (owes_none A (laws.lawful p.setup.diffusion.algebra) v p (subst IsFit c.self.view_is (stored_fit _ _ _ _ c.self.invariant))))
