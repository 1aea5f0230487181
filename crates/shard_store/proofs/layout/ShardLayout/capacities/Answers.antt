use Rattle.shard_store.proofs.Words.{◌+◌, ◌∙◌, set, sym, ap, subst, arith, ShardLayoutData}
use Rattle.shard_store.specs.Layout.{CountsAll}
use Rattle.shard_store.proofs.Crossings.{crossings_most, read_at, row_at, counts_other, counts_first}
use Rattle.shard_store.proofs.layout.ShardLayout.capacities.Goals as goal
use Rattle.shard_store.proofs.layout.ShardLayout.capacities.Goals.{then-is_first, else-is_first}

pub overflow_add-index_mut : goal.overflow_add-index_mut
overflow_add-index_mut c =
    let w = c.args.self.now in let P = c.holds.ensures in
    let row = row_at w P c.args.counted.now _ c.in_ok-capacities.capacities.items c.requires (ap (λ (u : ShardLayoutData). u.shard) c.self.view_is) c.in_ok-capacities.ensures.long c.in_ok-capacities.ensures.each in
    let a = row.1 w.shard P.shard in let m = crossings_most w.setup.diffusion.roads w.setup.plan P.roads P.covers w.shard w.shard in
    let v = read_at _ _ _ _ (c.shard.view_is ∙ ap (λ (u : ShardLayoutData). u.shard) c.self.view_is) (let n = row.0 in let l = P.shard in omega (arith, n, l)) c.index_mut.ensures.value in omega (arith, a, m, v)

pub returns : goal.returns
returns c =
    let w = c.args.self.now in let P = c.holds.ensures in let xs = c.in_ok-capacities.capacities.items in
    let same = c.shard.view_is ∙ ap (λ (u : ShardLayoutData). u.shard) c.self.view_is in
    let row = row_at w P c.args.counted.now _ xs c.requires (ap (λ (u : ShardLayoutData). u.shard) c.self.view_is) c.in_ok-capacities.ensures.long c.in_ok-capacities.ensures.each in
    elim c.if-is_first.branch [
      | then-is_first u ↦ subst (CountsAll w) (sym (ap (λ v. v.items) u.capacities-is ∙ (λ i. set xs (same i) ((read_at xs _ _ _ same (let n = row.0 in let l = P.shard in omega (arith, n, l)) u.index_mut.ensures.value) i + 1))))
          (counts_first w P xs row (sym c.is_first.ensures ∙ u.if-is_first.true))
      | else-is_first u ↦ subst (λ v. CountsAll w v.items) (sym u.capacities-is) (counts_other w P xs row (sym c.is_first.ensures ∙ u.if-is_first.false))
    ]
