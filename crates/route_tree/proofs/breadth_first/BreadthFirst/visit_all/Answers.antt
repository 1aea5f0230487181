use Rattle.route_tree.proofs.Words.{arith, ◌∙◌, passes}
use Rattle.route_tree.proofs.OneVertex.{level_once, level_done}
use Rattle.route_tree.proofs.breadth_first.BreadthFirst.visit_all.Goals as goal

pub loop-v-preserved : goal.loop-v-preserved
loop-v-preserved g c =
    let s = c.args.self.now in
    let now = c.loop-v.self in
    let same = c.loop-v.invariant.same in
    let visits = rw (same.over, same.region, same.level) at c.in_ok-visit.ensures.visits in
    record {
      goes = λ sources known. level_once s.over.roads (passes (g.A.PathAlgebra.meaning s.over.algebra) s) sources s.level now.hops now.parents c.args.list.now now.next
          c.loop-v.v-index c.v-item.result _ _ _ c.loop-v-test.true c.v-item.is (visits sources) (c.loop-v.invariant.goes sources known);
      same = record {
        over = c.in_ok-visit.ensures.same.over ∙ same.over;
        region = c.in_ok-visit.ensures.same.region ∙ same.region;
        level = c.in_ok-visit.ensures.same.level ∙ same.level;
      };
      size = c.in_ok-visit.ensures.size ∙ c.loop-v.invariant.size;
      kind = λ can. c.loop-v.invariant.kind (c.is_due.ensures.kind.0 can);
    }

pub returns-clause-visits : goal.returns-clause-visits
returns-clause-visits g c =
    let s = c.args.self.now in
    λ sources known. level_done s.over.roads (passes (g.A.PathAlgebra.meaning s.over.algebra) s) sources s.level c.loop-v.self.hops c.loop-v.self.parents c.args.list.now c.loop-v.self.next
    c.loop-v.v-index (omega arith) (c.loop-v.invariant.goes sources known)
