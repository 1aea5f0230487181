use Rattle.batch_run.proofs.Existing.{list_exists}
use Rattle.batch_run.proofs.laws.answers_exist.Goals as goal

pub returns : goal.returns
returns g c = λ graph roads asked within. list_exists (g.A.PathAlgebra.meaning c.args.algebra) graph roads (c.best_values_exist.ensures graph roads) (c.trees_exist.ensures graph roads)
    (c.routes_follow_parents.ensures.follows graph roads) (c.routes_follow_parents.ensures.from_one_source graph) asked within
