use Rattle.path_plain.proofs.Words.{arith, length-set}
use Rattle.path_plain.proofs.Noting.{next_inside, next_put_back, no_labels, no_marks}
use Rattle.path_plain.proofs.touched.put_back.Goals as goal

pub set-requires : goal.set-requires
set-requires g c =
    let inside = next_inside c.args.list.now c.loop-v.v-index c.loop-v.invariant.left c.loop-v-test.true c.v-item.is in
    record { low = omega (arith, inside.0, c.v.view_is); high = omega (arith, inside.1, c.v.view_is, c.loop-v.invariant.count) }

pub overflow_sub-v-inside : goal.overflow_sub-v-inside
overflow_sub-v-inside g c = omega (arith, (next_inside c.args.list.now c.loop-v.v-index c.loop-v.invariant.left c.loop-v-test.true c.v-item.is).0, c.v.view_is)

pub index_mut-requires : goal.index_mut-requires
index_mut-requires g c =
    let inside = next_inside c.args.list.now c.loop-v.v-index c.loop-v.invariant.left c.loop-v-test.true c.v-item.is in
    omega (arith, inside.0, inside.1, c.v.view_is, c.loop-v.invariant.marks, c.loop-v.settled.ok.0)

pub loop-v-preserved : goal.loop-v-preserved
loop-v-preserved g c = record {
  count = rw c.set.ensures (simp length-set c.loop-v.invariant.count);
  marks = simp length-set c.loop-v.invariant.marks;
  left = rw (c.set.ensures, c.v.view_is) (next_put_back c.args.list.now c.loop-v.v-index c.loop-v.invariant.left c.loop-v-test.true c.v-item.is c.loop-v.invariant.count c.loop-v.invariant.marks);
}

pub returns-clause-labels : goal.returns-clause-labels
returns-clause-labels g c = no_labels c.args.list.now c.loop-v.v-index c.loop-v.invariant.left (omega arith) c.loop-v.invariant.count

pub returns-clause-marks : goal.returns-clause-marks
returns-clause-marks g c = no_marks c.args.list.now c.loop-v.v-index c.loop-v.invariant.left (omega arith) c.loop-v.invariant.marks
