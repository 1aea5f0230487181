use Rattle.shard_part.proofs.Words.{◌≡◌, ap, refl, sym, subst, ◌∙◌, length, IsPermutation-refl}
use Rattle.shard_part.proofs.Rings.{pop_leaves}
use Rattle.shard_part.proofs.Taking.{newest_found, newest_arc, ranked_fewer, more_reordered, end_leaves, newest_given, newest_popped, best_popped, none_waits}
use Rattle.shard_part.proofs.state.PartState.pop_best.Goals as goal

pub improving-requires-clause-source : goal.improving-requires-clause-source
improving-requires-clause-source g c κs within = c.loop-item.invariant.stored.planned.source

pub improving-requires-clause-arc : goal.improving-requires-clause-arc
improving-requires-clause-arc g c κs within = newest_arc _ _ _ _ c.loop-item.invariant.stored c.loop-item.self-inside.queue c.in-Some.item (IsPermutation-refl _) c.in-Some.ensures.newest

pub improving-requires-clause-rows : goal.improving-requires-clause-rows
improving-requires-clause-rows g c κs within = c.loop-item.invariant.stored.sized.labels ∙ sym (ap length c.loop-item.invariant.stored.sized.own)

pub improving-requires-clause-increasing : goal.improving-requires-clause-increasing
improving-requires-clause-increasing g c κs within = (newest_found _ _ _ _ c.loop-item.invariant.stored c.loop-item.self-inside.queue c.in-Some.item (IsPermutation-refl _) c.in-Some.ensures.newest).0

pub improving-requires-clause-contained : goal.improving-requires-clause-contained
improving-requires-clause-contained g c κs within = (newest_found _ _ _ _ c.loop-item.invariant.stored c.loop-item.self-inside.queue c.in-Some.item (IsPermutation-refl _) c.in-Some.ensures.newest).1

pub loop-item-smaller : goal.loop-item-smaller
loop-item-smaller g c = ranked_fewer c.loop-item.self-inside.queue c.rank_newest.new.self c.in-Some.item c.in-Some.ensures.newest c.rank_newest.ensures.items c.rank_newest.ensures.ranked

pub loop-item-preserved : goal.loop-item-preserved
loop-item-preserved g c =
    let r = more_reordered g.A.PathAlgebra.meaning _ c.args.self.now _ _ _ c.loop-item.invariant.stored c.loop-item.invariant.same c.loop-item.invariant.items c.loop-item.self-inside.queue c.rank_newest.new.self refl
    c.rank_newest.ensures.items c.rank_newest.ensures.room in
    record { same = r.0; items = r.1; stored = r.2 }

pub invariant_of-self : goal.invariant_of-self
invariant_of-self g c = pop_leaves _ _ _ _ c.pop_newest.result c.pop_newest.new.self c.loop-item.invariant.stored c.pop_newest.ensures.room
    (end_leaves c.loop-item.self-inside.queue.items c.pop_newest.new.self.items c.pop_newest.result c.pop_newest.ensures.newest)
    (newest_given c.loop-item.self-inside.queue c.in-Some.item c.pop_newest.result _ c.in-Some.ensures.newest c.pop_newest.ensures.none)

pub returns-in-None-clause-some : goal.returns-in-None-clause-some
returns-in-None-clause-some g c = newest_popped g.A.PathAlgebra.meaning _ c.args.self.now _ _ _ c.loop-item.invariant.stored c.loop-item.invariant.same c.loop-item.invariant.items c.requires
    c.loop-item.self-inside.queue c.pop_newest.new.self.items c.in-Some.item c.pop_newest.result refl c.in-Some.ensures.newest c.in-None.ensures.none c.pop_newest.ensures.newest

pub invariant_of-self-2 : goal.invariant_of-self-2
invariant_of-self-2 g c = pop_leaves _ _ _ _ c.pop_best.result c.pop_best.new.self c.loop-item.invariant.stored c.pop_best.ensures.room c.pop_best.ensures.left c.pop_best.ensures.none

pub returns-clause-none : goal.returns-clause-none
returns-clause-none g c = none_waits g.A.PathAlgebra.meaning _ c.args.self.now _ _ _ c.loop-item.invariant.stored c.loop-item.invariant.same c.loop-item.invariant.items c.pop_best.new.self.items c.pop_best.result c.pop_best.ensures.none

pub returns-clause-some : goal.returns-clause-some
returns-clause-some g c = best_popped g.A.PathAlgebra.meaning _ c.args.self.now _ _ _ c.loop-item.invariant.stored c.loop-item.invariant.same c.loop-item.invariant.items c.requires c.pop_best.new.self.items c.pop_best.result
    g.A.PathAlgebra.order (subst (λ s. (g.A.PathAlgebra.meaning s).no_worse ≡ g.A.PathAlgebra.order) (ap (λ u. u.setup.diffusion.algebra) c.self.view_is) c.laws_hold.ensures.order)
    c.pop_best.ensures.left c.pop_best.ensures.best
