use Rattle.question_solvers.proofs.FactorCosts.{dense_over, each_over, heavy_over}
use Rattle.question_solvers.proofs.factors.seek_order.Goals as goal

pub invariant_of-solver-clause-heavy : goal.invariant_of-solver-clause-heavy
invariant_of-solver-clause-heavy g c = heavy_over c.make_rows.ensures.graph c.args.solver.now.heavy

pub invariant_of-solver-clause-each : goal.invariant_of-solver-clause-each
invariant_of-solver-clause-each g c = each_over c.make_rows.ensures.graph c.args.solver.now.each

pub invariant_of-solver-clause-dense : goal.invariant_of-solver-clause-dense
invariant_of-solver-clause-dense g c = dense_over c.make_rows.ensures.graph c.args.solver.now.dense
