use Rattle.std.proofs.Common.{length-set, arith, ap, ◌∙◌, replicate}
use Rattle.route_tree.proofs.Blank.{next_inside, blank_next, all_blank}
use Rattle.route_tree.proofs.lists.blank_at.Goals as goal

pub overflow_sub-v-inside : goal.overflow_sub-v-inside
overflow_sub-v-inside g c =
    let inside = next_inside c.args.blank c.args.found.now c.loop-v.v-index c.v-item.result c.loop-v-test.true c.v-item.is c.loop-v.list.items c.loop-v.invariant.left in
    omega (arith, inside.0, c.v.view_is)

pub index_mut-requires : goal.index_mut-requires
index_mut-requires g c =
    let inside = next_inside c.args.blank c.args.found.now c.loop-v.v-index c.v-item.result c.loop-v-test.true c.v-item.is c.loop-v.list.items c.loop-v.invariant.left in
    omega (arith, inside.0, inside.1, c.v.view_is, c.loop-v.list.ok.0)

pub loop-v-preserved : goal.loop-v-preserved
loop-v-preserved g c = record {
  count = simp length-set c.loop-v.invariant.count;
  left = rw c.v.view_is (blank_next c.args.blank c.args.found.now c.loop-v.v-index c.v-item.result c.loop-v-test.true c.v-item.is c.loop-v.list.items c.loop-v.invariant.left);
}

pub returns : goal.returns
returns g c =
    all_blank c.args.blank c.args.found.now c.loop-v.v-index c.loop-v.list.items (omega arith) c.loop-v.invariant.left
    ∙ ap (λ n. replicate n c.args.blank) c.loop-v.invariant.count
