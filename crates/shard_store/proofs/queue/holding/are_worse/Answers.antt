use Rattle.shard_store.proofs.Words.{arith, refl, sym, subst, IsWorseMessage}
use Rattle.std.proofs.lemmas.List.Elements.{All-get_or, AllWithin-more, All-from_all_within, at_read}
use Rattle.shard_store.proofs.queue.holding.are_worse.Goals as goal

pub loop-i-preserved : goal.loop-i-preserved
loop-i-preserved g c = AllWithin-more (IsWorseMessage g.A.PathAlgebra.order c.args.limit) c.args.items.now 0 c.loop-i.i c.loop-i.invariant
    (at_read c.args.items.now (IsWorseMessage g.A.PathAlgebra.order c.args.limit) c.loop-i.i c.index-items-i.result (omega arith) c.index-items-i.is (c.if-not-is_worse.ensures.worse refl))

pub returns-clause-held : goal.returns-clause-held
returns-clause-held g c = λ _. All-from_all_within (IsWorseMessage g.A.PathAlgebra.order c.args.limit) c.args.items.now (λ k d low high. c.loop-i.invariant k d low (omega arith))

pub returns-then-not-is_worse-clause-all : goal.returns-then-not-is_worse-clause-all
returns-then-not-is_worse-clause-all g c = λ h. let P = IsWorseMessage g.A.PathAlgebra.order c.args.limit in
    absurd (let one = c.if-not-is_worse.ensures.all (subst P (sym c.index-items-i.is) (All-get_or P c.args.items.now c.loop-i.i c.index-items-i.result (omega arith) h)) in cc)
