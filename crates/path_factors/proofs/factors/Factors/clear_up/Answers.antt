use Rattle.std.proofs.Common.{◌<◌, ◌∙◌, get_or, length-set, arith}
use Rattle.path_factors.proofs.Climbing.{clear_more, clear_ends}
use Rattle.path_factors.proofs.factors.Factors.clear_up.Goals as goal

pub loop-v-preserved : goal.loop-v-preserved
loop-v-preserved g c =
    let A = g.A.PathAlgebra.meaning c.args.self.now.algebra in
    let C = g.A.ComposingAlgebra.walks c.args.self.now.algebra in
    let G = c.args.self.now.roads in
    let holds = c.holds.ensures in
    let v = c.loop-v.v in
    let count = c.loop-v.invariant.count in
    let low : v < G.vertices = omega (arith, c.loop-v-test.true, count) in
    record {
      count = length-set c.loop-v.labels v _ ∙ count;
      inside = (c.parents-parents.ensures.above v low).1;
      up = rw c.none.ensures
          (clear_more A holds.lawful C holds.composes G holds.roads c.args.self.now.factor holds.factor c.args.self.now.heads holds.outline.are v (get_or c.parents-parents.result.now v 0) low (c.parents-parents.ensures.parents.parent v low) c.loop-v.labels count c.loop-v.invariant.up);
    }

pub returns-clause-none : goal.returns-clause-none
returns-clause-none g c =
    let A = g.A.PathAlgebra.meaning c.args.self.now.algebra in
    let C = g.A.ComposingAlgebra.walks c.args.self.now.algebra in
    let holds = c.holds.ensures in
    clear_ends A holds.lawful C holds.composes c.args.self.now.roads holds.roads c.args.self.now.factor holds.factor c.args.self.now.heads holds.outline.are c.loop-v.v c.loop-v.labels c.loop-v.invariant.count
    (omega (arith, c.loop-v-test.false, c.loop-v.invariant.inside, c.loop-v.invariant.count)) c.loop-v.invariant.up
