use Rattle.station.proofs.Words.{◌<◌, get_or, sym, subst, arith, common_steps, PlanData}
use Rattle.station.proofs.gathering.collect.Goals as goal

pub returns-in_default-clause-refused : goal.returns-in_default-clause-refused
returns-in_default-clause-refused g c = λ j l. (get_or c.in-Ok.places j 0, c.in-Ok.ensures j (subst (λ (P : PlanData). j < P.shards) (sym c.plan_of-plan.ensures) l))

pub returns-in_default-with_capacity-clause-refused : goal.returns-in_default-with_capacity-clause-refused
returns-in_default-with_capacity-clause-refused g c = λ j l. (get_or c.in-Ok.places j 0, c.in-Ok.ensures j (subst (λ (P : PlanData). j < P.shards) (sym c.plan_of-plan.ensures) l))

pub returns-clause-there : goal.returns-clause-there
returns-clause-there g c = λ j l. (get_or c.in-Ok.places j 0, c.in-Ok.ensures j (subst (λ (P : PlanData). j < P.shards) (sym c.plan_of-plan.ensures) l))

pub returns-in-Err-clause-refused : goal.returns-in-Err-clause-refused
returns-in-Err-clause-refused g c = grind (arith, common_steps)
