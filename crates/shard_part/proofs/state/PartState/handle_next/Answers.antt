use Rattle.shard_part.proofs.Words.{subst, arith, IsPlanned, IsFit}
use Rattle.shard_part.proofs.ItemIsTaken.{stored_fit}
use Rattle.shard_part.proofs.RepaidRuns.{popped_run}
use Rattle.shard_part.proofs.state.PartState.handle_next.Goals as goal

pub returns-in-Some-clause-taken : goal.returns-in-Some-clause-taken
returns-in-Some-clause-taken g c = λ _ told.
    let laws = g.met.A.PathAlgebra g.world.𝓛 g.world.𝓜 g.world.𝓡 ((λ s x. x), (λ x. x), (λ x. x), λ x. x) in
    (popped_run g.A.PathAlgebra.meaning laws.lawful c.args.self.now c.pop.new.self c.handle_item.new.self c.in-Some.item c.handle_item.result
    (subst (λ u. IsPlanned u.setup u.shard) c.self.view_is c.self.invariant.planned) (subst IsFit c.self.view_is (stored_fit _ _ _ _ c.self.invariant)) told c.in-Some.ensures.some
    (λ l. let m = c.handle_item.ensures.most in c.repayable-most.ensures.order (omega (arith, l, m))) c.handle_item.ensures.taken).0

pub returns-in-Some-clause-told : goal.returns-in-Some-clause-told
returns-in-Some-clause-told g c = λ told.
    let laws = g.met.A.PathAlgebra g.world.𝓛 g.world.𝓜 g.world.𝓡 ((λ s x. x), (λ x. x), (λ x. x), λ x. x) in
    (popped_run g.A.PathAlgebra.meaning laws.lawful c.args.self.now c.pop.new.self c.handle_item.new.self c.in-Some.item c.handle_item.result
    (subst (λ u. IsPlanned u.setup u.shard) c.self.view_is c.self.invariant.planned) (subst IsFit c.self.view_is (stored_fit _ _ _ _ c.self.invariant)) told c.in-Some.ensures.some
    (λ l. let m = c.handle_item.ensures.most in c.repayable-most.ensures.order (omega (arith, l, m))) c.handle_item.ensures.taken).1
