use Rattle.route_tree.proofs.Words.{arith, ◌∙◌, passes_back}
use Rattle.route_tree.proofs.VisitingBack.{level_once, level_done}
use Rattle.route_tree.proofs.backward.Backward.visit_all.Goals as goal

pub loop-v-preserved : goal.loop-v-preserved
loop-v-preserved g c =
    let s = c.args.self.now in
    let over = c.loop-v.invariant.over in
    let visits = rw over at c.in_ok-visit.ensures.visits in
    record {
      goes = λ target k known. level_once s.over.roads (passes_back (g.A.PathAlgebra.meaning s.over.algebra) s) target k c.loop-v.self.marks c.args.list.now c.loop-v.self.next
          c.loop-v.v-index c.v-item.result _ _ c.loop-v-test.true c.v-item.is (visits target k) (c.loop-v.invariant.goes target k known);
      over = c.in_ok-visit.ensures.over ∙ over;
      size = c.in_ok-visit.ensures.size ∙ c.loop-v.invariant.size;
      kind = λ can. c.loop-v.invariant.kind (c.is_due.ensures.kind.0 can);
    }

pub returns-clause-visits : goal.returns-clause-visits
returns-clause-visits g c =
    let s = c.args.self.now in
    λ target k known. level_done s.over.roads (passes_back (g.A.PathAlgebra.meaning s.over.algebra) s) target k c.loop-v.self.marks c.args.list.now c.loop-v.self.next
    c.loop-v.v-index (omega arith) (c.loop-v.invariant.goes target k known)
