use Rattle.std.proofs.Common.{length-set, arith}
use Rattle.path_plain.proofs.Noting.{next_inside, next_put_back, no_labels, no_marks}
use Rattle.tree_search.proofs.table.put_back.Goals as goal

pub overflow_sub-i : goal.overflow_sub-i
overflow_sub-i g c = omega (arith, (next_inside c.args.list.now c.loop-v.v-index c.loop-v.invariant.left c.loop-v-test.true c.v-item.is).0, c.v.view_is)

pub clear-requires-after_bounds : goal.clear-requires-after_bounds
clear-requires-after_bounds g c κs within =
    let inside = next_inside c.args.list.now c.loop-v.v-index c.loop-v.invariant.left c.loop-v-test.true c.v-item.is in
    omega (arith, inside.0, inside.1, c.v.view_is, c.loop-v.invariant.count)

pub index_mut-requires : goal.index_mut-requires
index_mut-requires g c =
    let inside = next_inside c.args.list.now c.loop-v.v-index c.loop-v.invariant.left c.loop-v-test.true c.v-item.is in
    omega (arith, inside.0, inside.1, c.v.view_is, c.loop-v.invariant.settled_count, c.loop-v.settled.ok.0)

pub loop-v-preserved : goal.loop-v-preserved
loop-v-preserved g c = record {
  count = rw c.clear.ensures (simp length-set c.loop-v.invariant.count);
  settled_count = simp length-set c.loop-v.invariant.settled_count;
  left = rw (c.clear.ensures, c.v.view_is) (next_put_back c.args.list.now c.loop-v.v-index c.loop-v.invariant.left c.loop-v-test.true c.v-item.is c.loop-v.invariant.count c.loop-v.invariant.settled_count);
}

pub returns-clause-marks : goal.returns-clause-marks
returns-clause-marks g c = no_labels c.args.list.now c.loop-v.v-index c.loop-v.invariant.left (omega arith) c.loop-v.invariant.count

pub returns-clause-settled : goal.returns-clause-settled
returns-clause-settled g c = no_marks c.args.list.now c.loop-v.v-index c.loop-v.invariant.left (omega arith) c.loop-v.invariant.settled_count
