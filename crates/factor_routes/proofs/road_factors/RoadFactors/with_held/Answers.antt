use Rattle.std.proofs.Common.{refl}
use Rattle.std.proofs.lemmas.Result.{IfOk-weaker}
use Rattle.factor_routes.proofs.road_factors.RoadFactors.with_held.Goals as goal

pub returns-in-Some-clause-lesser : goal.returns-in-Some-clause-lesser
returns-in-Some-clause-lesser c =
    rw c.in-Some.is (IfOk-weaker c.lesser_tail.result _ _
    (λ found lesser number best. lesser c.args.asker.now.sources number (c.requires.same, refl) best) c.lesser_tail.ensures.lesser)
