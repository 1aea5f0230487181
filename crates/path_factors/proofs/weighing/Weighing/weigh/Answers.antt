use Rattle.path_factors.proofs.Words.{◌≡◌, ◌∙◌, arith, sym, subst, AreClosedTo, CoversArcs, Improves, IsClosedOn}
use Rattle.path_factors.proofs.Connecting.{improves_more, rest_more}
use Rattle.path_factors.proofs.Loading.{still_covers}
use Rattle.path_factors.proofs.Whole.{covers_whole, closed_whole}
use Rattle.path_factors.proofs.weighing.Weighing.weigh.Goals as goal

pub returns-clause-whole : goal.returns-clause-whole
returns-clause-whole g c =
    let S = c.args.self.now in
    let A = g.A.PathAlgebra.meaning S.algebra in
    let C = g.A.ComposingAlgebra.walks S.algebra in
    let marks = c.args.marks.now in
    let ordered = c.holds.ensures.composes.ordered in
    let load = c.in_ok-load.ensures in
    let all = c.in_ok-eliminate_all.ensures in
    let G = c.load.new.self.factor in
    let H = c.eliminate_all.new.self.factor in
    let done = c.holds-2.ensures in
    let onward = subst (λ a. Improves (g.A.ComposingAlgebra.walks a) 0 G H) load.same.algebra all.improves in
    let improves = improves_more C ordered 0 S.factor G H load.improves onward in
    let n : c.load.new.self.roads.vertices ≡ S.roads.vertices = λ i. (load.same.roads i).vertices in
    let alg = all.same.algebra ∙ load.same.algebra in
    let roads = all.same.roads ∙ load.same.roads in
    let here : CoversArcs C S.roads H × AreClosedTo C H S.roads.vertices = (
      covers_whole A C ordered S.roads marks S.factor H c.requires.rest improves (still_covers C ordered marks S.roads G H onward load.covers),
      λ v low. closed_whole A C ordered S.roads marks S.factor H c.requires.rest improves done.aligned (all.same.heads ∙ load.same.heads)
          (rest_more _ S.factor G H load.rest all.rest) v
          (subst (λ a. IsClosedOn (g.A.ComposingAlgebra.walks a) marks H v) load.same.algebra (all.closed v (omega (arith, low, n)))),
    ) in
    let moved = subst (λ a. CoversArcs (g.A.ComposingAlgebra.walks a) c.eliminate_all.new.self.roads H × AreClosedTo (g.A.ComposingAlgebra.walks a) H c.eliminate_all.new.self.roads.vertices) (sym alg)
    (subst (λ r. CoversArcs C r H × AreClosedTo C H r.vertices) (sym roads) here) in
    record { begun = done.begun; covers = moved.0; closed = moved.1 }
