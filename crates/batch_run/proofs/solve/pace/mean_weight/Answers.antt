use Rattle.std.proofs.Common.{◌<◌, ◌+◌, length, sym, ap, ◌∙◌, arith}
use Rattle.batch_run.proofs.MeanWeight.{weighs_more}
use Rattle.batch_run.proofs.solve.pace.mean_weight.Goals as goal

pub loop-number-preserved : goal.loop-number-preserved
loop-number-preserved c =
    let was = c.loop-number.invariant in
    let number = c.loop-number.number in
    let inside : number < length c.args.graph.now.arcs = omega (arith, c.arcs-number-end.ensures, c.loop-number-test.true) in
    let weight = c.from-sum.ensures ∙ ap (λ r. r.weight) c.road.ensures in
    let low = c.holds.ensures.weights (number + 1) (omega arith, omega (arith, inside)) in
    record {
      sum = (λ i. was.sum i + weight i) ∙ sym (weighs_more c.args.graph.now number inside);
      most = (let m = was.most in omega (arith, m, weight, low));
    }
