use Rattle.std.proofs.Common.{ap, ◌∙◌}
use Rattle.shard_part.proofs.Rings.{first_leaves, first_popped, pop_leaves}
use Rattle.shard_part.proofs.Taking.{none_taken}
use Rattle.shard_part.proofs.state.PartState.pop_first.Goals as goal

pub pop_first-requires-after_bounds : goal.pop_first-requires-after_bounds
pop_first-requires-after_bounds g c κs within = c.self.invariant.roomy.order ∙ ap (λ u. u.setup.order) c.self.view_is ∙ c.requires

pub invariant_of-self : goal.invariant_of-self
invariant_of-self g c = pop_leaves _ _ _ _ c.pop_first.result c.pop_first.new.self c.self.invariant c.pop_first.ensures.room
    (first_leaves c.self.inside.queue.items c.pop_first.new.self.items c.pop_first.result c.pop_first.ensures.first) c.pop_first.ensures.none

pub returns-clause-none : goal.returns-clause-none
returns-clause-none g c = none_taken _ c.args.self.now c.pop_first.new.self.items c.pop_first.result c.self.view_is c.pop_first.ensures.none

pub returns-clause-some : goal.returns-clause-some
returns-clause-some g c = first_popped (g.A.PathAlgebra.meaning c.args.self.now.setup.diffusion.algebra) _ c.args.self.now _ _ _ c.pop_first.new.self c.pop_first.result c.self.view_is c.self.invariant c.requires c.pop_first.ensures.first
