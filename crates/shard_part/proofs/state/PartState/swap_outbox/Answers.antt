use Rattle.shard_part.proofs.Words.{◌<◌, arith, ap, refl, sym, ◌∙◌, [], set, get_or, network_of, place_in, outbox_bound}
use Rattle.circular_buffer.specs.Buffer.{buffer}
use Rattle.shard_part.proofs.Receiving.{swap_leaves}
use Rattle.shard_part.proofs.state.PartState.swap_outbox.Goals as goal

pub invariant_of-self : goal.invariant_of-self
invariant_of-self g c = let l : c.to.inside.0 < c.args.self.now.setup.plan.shards = (let v = c.to.view_is in let r = c.requires.shard in omega (arith, v, r)) in
    (swap_leaves (λ b. b.items) (λ b. b.capacity) c.self.inside.outs.items _ c.args.self.now _ _ c.to.inside.0 c.index_mut.result.now c.swap.new.x c.self.view_is c.self.invariant refl
    (λ q. c.requires.other (sym c.to.view_is ∙ q)) l c.index_mut.ensures.value (ap (λ b. b.items) c.swap.ensures.x_after ∙ c.requires.empty)
    (ap (λ b. b.capacity) c.swap.ensures.x_after ∙ c.requires.capacity
    ∙ ap (outbox_bound (network_of c.args.self.now.setup) (place_in c.args.self.now.setup) c.args.self.now.shard) (sym c.to.view_is))).0

pub returns-clause-part : goal.returns-clause-part
returns-clause-part g c = let l : c.to.inside.0 < c.args.self.now.setup.plan.shards = (let v = c.to.view_is in let r = c.requires.shard in omega (arith, v, r)) in
    (swap_leaves (λ b. b.items) (λ b. b.capacity) c.self.inside.outs.items _ c.args.self.now _ _ c.to.inside.0 c.index_mut.result.now c.swap.new.x c.self.view_is c.self.invariant refl
    (λ q. c.requires.other (sym c.to.view_is ∙ q)) l c.index_mut.ensures.value (ap (λ b. b.items) c.swap.ensures.x_after ∙ c.requires.empty)
    (ap (λ b. b.capacity) c.swap.ensures.x_after ∙ c.requires.capacity
    ∙ ap (outbox_bound (network_of c.args.self.now.setup) (place_in c.args.self.now.setup) c.args.self.now.shard) (sym c.to.view_is))).1
    ∙ (λ i. record c.args.self.now { outs = set c.args.self.now.outs (c.to.view_is i) [] })

pub returns-clause-batch : goal.returns-clause-batch
returns-clause-batch g c = let l : c.to.inside.0 < c.args.self.now.setup.plan.shards = (let v = c.to.view_is in let r = c.requires.shard in omega (arith, v, r)) in
    let S = swap_leaves (λ b. b.items) (λ b. b.capacity) c.self.inside.outs.items _ c.args.self.now _ _ c.to.inside.0 c.index_mut.result.now c.swap.new.x c.self.view_is c.self.invariant refl
    (λ q. c.requires.other (sym c.to.view_is ∙ q)) l c.index_mut.ensures.value (ap (λ b. b.items) c.swap.ensures.x_after ∙ c.requires.empty)
    (ap (λ b. b.capacity) c.swap.ensures.x_after ∙ c.requires.capacity
    ∙ ap (outbox_bound (network_of c.args.self.now.setup) (place_in c.args.self.now.setup) c.args.self.now.shard) (sym c.to.view_is)) in
    c.swap.ensures.y_after ∙ (λ i. buffer ((S.2 ∙ ap (λ k. get_or c.args.self.now.outs k []) c.to.view_is) i) ((S.3 ∙ ap (λ b. b.capacity) c.swap.ensures.x_after) i))
