use Rattle.shard_store.proofs.Words.{◌+◌, ◌∙◌, arith}
use Rattle.shard_store.proofs.Crossings.{heads_planned, row_few, counted_few, next_row, all_rows}
use Rattle.shard_store.proofs.counted_plan.count_rows.Goals as goal

pub count_row-requires-clause-heads : goal.count_row-requires-clause-heads
count_row-requires-clause-heads c = λ k l. heads_planned c.args.graph.now c.args.plan.now c.holds.ensures c.requires.covers (c.loop-i.i + 1) k c.roads_from.result.now _ c.roads_from.ensures l

pub count_row-requires-clause-few : goal.count_row-requires-clause-few
count_row-requires-clause-few c = row_few c.args.graph.now c.args.plan.now (c.loop-i.i + 1) c.roads_from.result.now c.holds.ensures (omega arith) c.roads_from.ensures

pub count_row-requires-clause-small : goal.count_row-requires-clause-small
count_row-requires-clause-small c = λ s t ls lt. counted_few c.args.graph.now c.args.plan.now c.holds.ensures c.requires.covers s t c.loop-i.i _ (let l = c.loop-i-test.true in let n = c.vertices-i-end.ensures.count in omega (arith, l, n))
    (c.loop-i.invariant.each s t ls lt)

pub loop-i-preserved : goal.loop-i-preserved
loop-i-preserved c = record {
  long = c.count_row.ensures.long ∙ c.loop-i.invariant.long;
  each = λ s t ls lt. next_row c.args.graph.now c.args.plan.now c.holds.ensures c.requires.covers s t c.loop-i.i (c.loop-i.i + 1) c.roads_from.result.now c.shard_of.result _ _ (omega arith) c.roads_from.ensures c.shard_of.ensures.shard
      (c.count_row.ensures.each s t ls lt) (c.loop-i.invariant.each s t ls lt);
}

pub returns : goal.returns
returns c = all_rows c.args.graph.now c.args.plan.now c.holds.ensures c.requires.covers c.loop-i.i c.loop-i.counts c.loop-i.invariant.long
    (let l = c.loop-i-test.false in let h = c.loop-i.auto.i-end in let n = c.vertices-i-end.ensures.count in omega (arith, l, h, n)) c.loop-i.invariant.each
