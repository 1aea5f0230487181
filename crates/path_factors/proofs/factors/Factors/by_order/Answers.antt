use Rattle.path_factors.proofs.Words.{subst, AreBlank}
use Rattle.path_factors.proofs.factors.Factors.by_order.Goals as goal

pub open_blank-weighing-requires-clause-risers : goal.open_blank-weighing-requires-clause-risers
open_blank-weighing-requires-clause-risers g c κs within =
    subst (λ (w : g.row.A-Walk.Denot). AreBlank w c.in_ok-rows.rows.leaving) c.no_walk.ensures c.in_ok-rows.ensures.risers

pub open_blank-weighing-requires-clause-fallers : goal.open_blank-weighing-requires-clause-fallers
open_blank-weighing-requires-clause-fallers g c κs within =
    subst (λ (w : g.row.A-Walk.Denot). AreBlank w c.in_ok-rows.rows.entering) c.no_walk.ensures c.in_ok-rows.ensures.fallers
