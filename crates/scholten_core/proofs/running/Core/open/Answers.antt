use Rattle.scholten_core.proofs.Opened.{opened_run}
use Rattle.scholten_core.proofs.running.Core.open.Goals as goal

pub invariant_of-result : goal.invariant_of-result
invariant_of-result g c =
    opened_run g.A.PathAlgebra.meaning c.in_ok-tables.tables c.args.algebra c.args.graph.now c.args.source c.in_ok-tables.ensures.diffusion c.roads_hold.ensures c.requires c.in_ok-tables.ensures.state
