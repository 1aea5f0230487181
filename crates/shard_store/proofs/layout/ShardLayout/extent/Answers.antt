use Rattle.shard_store.proofs.Words.{◌+◌, sym, ◌∙◌, refl, subst, arith, placed, place_in, IsExtent}
use Rattle.shard_store.proofs.Counting.{placed_then, placed_else, placed_long}
use Rattle.shard_store.proofs.ShardLayouts.{extent_none, extent_within}
use Rattle.shard_store.proofs.layout.ShardLayout.extent.Goals as goal
use Rattle.shard_store.proofs.layout.ShardLayout.extent.Goals.{then-has, else-has}

pub loop-i-init : goal.loop-i-init
loop-i-init c = extent_none (place_in c.args.self.now.setup) c.args.self.now.shard

pub up_to-extent-requires : goal.up_to-extent-requires
up_to-extent-requires c =
    let p = placed_long (place_in c.args.self.now.setup) c.args.self.now.shard 1 c.loop-i.i in let i = c.loop-i.invariant.count in let t = c.loop-i-test.true in
    let n = c.vertices-i-end.ensures.count in let f = c.vertices-i-end.ensures.roads.few_vertices in omega (arith, p, i, t, n, f)

pub loop-i-preserved : goal.loop-i-preserved
loop-i-preserved c = elim c.if-has.branch [
  | then-has w ↦ subst (λ e. IsExtent (placed (place_in c.args.self.now.setup) c.args.self.now.shard 1 (c.loop-i.i + 1)) e) (sym w.extent-is)
      (subst (λ vs. IsExtent vs w.up_to-extent.result) (sym (placed_then (place_in c.args.self.now.setup) c.args.self.now.shard c.loop-i.i (c.loop-i.i + 1) refl (sym c.has.ensures ∙ w.if-has.true)))
      (w.up_to-extent.ensures (placed (place_in c.args.self.now.setup) c.args.self.now.shard 1 c.loop-i.i) c.loop-i.invariant))
  | else-has w ↦ subst (λ e. IsExtent (placed (place_in c.args.self.now.setup) c.args.self.now.shard 1 (c.loop-i.i + 1)) e) (sym w.extent-is)
      (subst (λ vs. IsExtent vs c.loop-i.extent) (sym (placed_else (place_in c.args.self.now.setup) c.args.self.now.shard c.loop-i.i
      (c.loop-i.i + 1) refl (sym c.has.ensures ∙ w.if-has.false))) c.loop-i.invariant)
]

pub returns-clause-within : goal.returns-clause-within
returns-clause-within c =
    let j = c.loop-i.auto.i-end in let n = c.vertices-i-end.ensures.count in let f = c.vertices-i-end.ensures.roads.few_vertices in
    extent_within (place_in c.args.self.now.setup) c.args.self.now.shard c.loop-i.i c.loop-i.extent (omega (arith, j, n, f)) c.loop-i.invariant
