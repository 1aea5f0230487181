use Rattle.std.proofs.Common.{◌+◌, arith, ◌∙◌}
use Rattle.shard_store.proofs.Counting.{total_take, total_most, total_whole}
use Rattle.shard_store.proofs.layout.sum_of.Goals as goal

pub overflow_add-sum : goal.overflow_add-sum
overflow_add-sum c = let m = total_most (λ n. n) c.args.numbers.now (c.loop-number.number-index + 1) in
    let t = total_take (λ n. n) c.args.numbers.now c.loop-number.number-index 0 c.loop-number-test.true in let i = c.loop-number.invariant in
    let r = c.requires in omega (arith, m, t, i, r)

pub loop-number-preserved : goal.loop-number-preserved
loop-number-preserved c = let t = total_take (λ n. n) c.args.numbers.now c.loop-number.number-index 0 c.loop-number-test.true in let i = c.loop-number.invariant in omega (arith, t, i)

pub returns : goal.returns
returns c = c.loop-number.invariant ∙ total_whole (λ n. n) c.args.numbers.now c.loop-number.number-index c.loop-number-test.false
