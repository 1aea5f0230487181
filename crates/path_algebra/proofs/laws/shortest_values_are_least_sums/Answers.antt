use Rattle.path_algebra.proofs.CountedLaws.{least_sum_if_best, best_if_least_sum}
use Rattle.path_algebra.proofs.laws.shortest_values_are_least_sums.Goals as goal

pub returns : goal.returns
returns c = λ sources inside v x.
    let G = c.args.graph.now in
    let roads = c.holds.ensures in
    (least_sum_if_best G roads sources inside v x, best_if_least_sum G roads sources inside v x)
